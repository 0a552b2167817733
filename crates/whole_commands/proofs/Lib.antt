pub mod Steps
pub mod Begun
pub mod Bad
pub mod Reading
pub mod ReadOps
pub mod Tickets
pub mod ReadRuns
pub mod Lone
pub mod Writing
pub mod WriteRuns
pub mod DrainSteps
pub mod BusRuns
mod Chunks
pub mod ChunksRead
pub mod ChunksWritten
