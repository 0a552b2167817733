-- The controller: its pipes and doorbells, the TRBs that it takes, and what each step makes of rings, memory and device.
pub mod Pipes
pub mod Doorbells
pub mod Steps
pub mod Own
pub mod Engine
