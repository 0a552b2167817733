pub mod Words
pub mod Commands
pub mod Transfers
pub mod Contexts
pub mod Events
