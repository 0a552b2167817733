-- The controller moves a chunk.
pub mod ChunkWindows
pub mod ChunkEntries
pub mod ChunkLines
pub mod DataWorlds
pub mod DataSteps
pub mod OwnFronts
pub mod DataMoves
pub mod DataDue
