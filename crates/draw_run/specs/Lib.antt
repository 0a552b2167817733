pub mod page
pub mod picture
pub mod Draws
