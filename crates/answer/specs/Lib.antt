pub mod Answers
pub mod Marked
pub mod Carried
