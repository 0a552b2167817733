-- The information units as byte lists, and the faults of other byte lists.
pub mod Faults
pub mod Heads
pub mod Lun
pub mod Units
