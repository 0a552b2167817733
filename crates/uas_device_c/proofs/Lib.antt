pub mod Ended
pub mod ControllerBehind
pub mod DeviceBehind
