pub mod Behind
pub mod Wider
pub mod Whole
pub mod Begun
pub mod Stopped
pub mod ActedFit
