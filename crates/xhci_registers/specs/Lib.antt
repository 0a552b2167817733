-- The registers of an xHCI controller with one slot, one interrupter and two ports (xHCI 1.2, 5.3 to 5.6).
pub mod Bits
pub mod Ports
pub mod Words
pub mod Writes
pub mod Signals
