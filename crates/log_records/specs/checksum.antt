pub mod Division
pub mod Bytes
