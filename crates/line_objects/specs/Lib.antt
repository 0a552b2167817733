pub mod Lines
pub mod Objects
pub mod Held
pub mod Asked
