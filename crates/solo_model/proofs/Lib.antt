pub mod Beginning
pub mod Carried
pub mod Kept
pub mod Filtered
