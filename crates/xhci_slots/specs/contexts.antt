-- The contexts of a device in a driver's memory, and what the commands on contexts make of them (xHCI 1.2, 4.6 and 6.2).
pub mod Contexts
pub mod Inputs
pub mod Commands
