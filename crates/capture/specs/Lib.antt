pub mod State
pub mod Run
pub mod Calls
pub mod Uncut
pub mod Carried
