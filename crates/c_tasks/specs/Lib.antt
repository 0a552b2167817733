-- A device without blocks as C asks for it.
pub mod Disks
pub mod Making
pub mod Outcomes
