pub mod Map
pub mod Contexts
pub mod Rings
pub mod Stored
pub mod Consumers
