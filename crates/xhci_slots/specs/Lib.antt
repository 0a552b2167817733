pub mod contexts
-- The device slot of a controller: its states, and the commands on it (xHCI 1.2, 4.5.3 and 4.6).
pub mod Slots
pub mod Wanted
