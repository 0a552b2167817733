pub mod Chains
pub mod Shifts
pub mod Names
pub mod Held
pub mod Consumers
pub mod Stamped
pub mod Read
pub mod Agree
