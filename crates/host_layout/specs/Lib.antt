pub mod Sizes
pub mod Shapes
pub mod Places
pub mod Rings
pub mod Cutting
