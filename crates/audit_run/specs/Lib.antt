pub mod replay
pub mod Audits
pub mod Faults
pub mod Ends
