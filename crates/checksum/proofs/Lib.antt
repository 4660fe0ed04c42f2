pub mod Below
pub mod Bit
pub mod Laws
