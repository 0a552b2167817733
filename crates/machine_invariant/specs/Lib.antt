pub mod Ordered
pub mod Reach
pub mod Matched
