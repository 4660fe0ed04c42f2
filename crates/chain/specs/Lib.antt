pub mod Record
pub mod Memory
pub mod Calls
pub mod Places
pub mod Helpers
pub mod Replies
pub mod Carried
