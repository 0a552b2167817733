-- The device receives the oldest unit.
pub mod DeviceSteps
pub mod CommandFront
pub mod Aborted
pub mod Queried
pub mod ManagedFits
pub mod CommandFits
