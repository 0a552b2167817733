pub mod Within
pub mod Found
pub mod Cutting
pub mod Areas
pub mod Blocks
pub mod PieceBytes
