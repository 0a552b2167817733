pub mod Parts
pub mod Answered
pub mod Begun
pub mod Bytes
pub mod Opened
pub mod Steps
