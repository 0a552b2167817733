-- What was written to a memory.
pub mod Notes
pub mod Laws
