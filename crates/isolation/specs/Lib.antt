pub mod Laws
pub mod Isolation
pub mod FirstBlocks
pub mod Refusals
pub mod StepIsolation
pub mod Once
