pub mod Cuts
pub mod DeviceBytes
pub mod Settings
pub mod Joins
pub mod FoundAgain
pub mod Contexts
