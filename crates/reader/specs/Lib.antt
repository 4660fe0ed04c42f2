pub mod Layout
pub mod Interface
pub mod Kept
pub mod Resting
pub mod Carried
