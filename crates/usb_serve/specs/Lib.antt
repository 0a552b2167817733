pub mod Faults
pub mod Greeting
pub mod Packets
pub mod Files
pub mod Rooms
pub mod Sending
pub mod Steps
pub mod Sessions
