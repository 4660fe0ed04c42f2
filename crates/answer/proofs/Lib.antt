pub mod Widths
pub mod Answering
pub mod RoundTrip
pub mod Either
pub mod AsMarked
pub mod Carrying
