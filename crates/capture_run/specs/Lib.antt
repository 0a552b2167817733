pub mod format
pub mod urbs
pub mod Ends
pub mod Moved
