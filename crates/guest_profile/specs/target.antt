pub mod Targets
pub mod Laws
