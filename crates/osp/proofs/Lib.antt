pub mod Giving
pub mod BuildPwm
pub mod ChainCalls
pub mod AsRun
pub mod Carrying
