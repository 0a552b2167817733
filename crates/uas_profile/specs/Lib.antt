-- The words that host, controller, device and shared machine have in common.
pub mod Pipes
pub mod Tags
pub mod TagLaws
pub mod TdStates
pub mod Doors
pub mod PipeStates
