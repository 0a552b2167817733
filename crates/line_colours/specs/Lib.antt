pub mod Colours
pub mod When
