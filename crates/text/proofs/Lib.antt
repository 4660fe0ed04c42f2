pub mod Appending
pub mod Decimal
