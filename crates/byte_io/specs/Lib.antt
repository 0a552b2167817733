pub mod Words
pub mod Disks
pub mod Streams
