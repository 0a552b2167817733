pub mod State
pub mod Steps
pub mod Calls
pub mod Orders
pub mod Wanted
pub mod Silent
pub mod Beside
