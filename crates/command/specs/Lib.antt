pub mod Fields
pub mod Commands
