pub mod Flags
pub mod Least
