pub mod Devices
pub mod Units
pub mod Tags
pub mod DataIn
pub mod Status
pub mod Wanted
