pub mod Cuts
pub mod Fronts
