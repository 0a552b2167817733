mod Digits
pub mod Reading
pub mod Parts
