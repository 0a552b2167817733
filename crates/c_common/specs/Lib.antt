pub mod faults
pub mod trb
-- What the libraries for C have in common: doors and handles, records in place of values.
pub mod Door
pub mod Handed
pub mod HandedOut
pub mod Bytes
pub mod OperationRecord
pub mod Shown
pub mod Units
