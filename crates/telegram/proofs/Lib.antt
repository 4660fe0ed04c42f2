pub mod Outcomes
pub mod Reading
pub mod Front
pub mod Building
pub mod RoundTrip
pub mod Carrying
