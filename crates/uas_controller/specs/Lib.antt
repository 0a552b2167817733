-- The machine behind a driver: its parts, the tests of what a step carries out, and what each call makes of it.
pub mod Machine
pub mod Own
pub mod Steps
pub mod Calls
