-- Endpoint 0: its TRBs, where a control transfer is, and a step.
pub mod Trbs
pub mod Stages
pub mod Steps
pub mod Wanted
