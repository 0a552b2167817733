pub mod Counts
pub mod Sound
pub mod Luns
pub mod Received
pub mod Managed
pub mod Kept
mod Places
