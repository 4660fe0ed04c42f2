pub mod Casts
pub mod Table
