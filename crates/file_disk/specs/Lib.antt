pub mod Written
pub mod Device
pub mod Pieces
