-- A retirement begins, and the controller executes its commands.
pub mod EngineCells
pub mod EngineDue
pub mod RetireFits
pub mod EngineCellWrites
pub mod EngineExecuted
pub mod EngineFits
pub mod EngineSeen
pub mod EngineStepped
