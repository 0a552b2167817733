pub mod Chunks
pub mod Gathered
