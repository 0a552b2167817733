-- The numbers of the faults.
pub mod Faults
