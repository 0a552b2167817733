-- The device's tasks by tag, and what each call makes of them.
pub mod Fields
pub mod Marks
pub mod Tasks
pub mod Moved
pub mod Device
pub mod Soundness
pub mod Laws
