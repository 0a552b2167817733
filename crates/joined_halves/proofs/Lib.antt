pub mod ControllerHalf
pub mod DriverHalf
