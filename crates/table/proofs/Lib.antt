pub mod Both
pub mod Keys
pub mod Table
pub mod Acknowledged
pub mod Destinations
pub mod Rows
