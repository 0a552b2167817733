-- The controller moves a status.
pub mod StatusReady
pub mod StatusFits
