mod Holders
pub mod Cancels
pub mod ToldOnce
