-- What one command does to one logical unit.
pub mod Server
pub mod Laws
