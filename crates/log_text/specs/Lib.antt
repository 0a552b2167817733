pub mod Text
pub mod Reading
pub mod Stops
pub mod Loading
pub mod Writing
pub mod Kept
pub mod Plain
pub mod Migration
