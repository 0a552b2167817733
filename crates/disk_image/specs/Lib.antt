pub mod Images
pub mod Alone
pub mod Stops
