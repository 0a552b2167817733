pub mod Tasks
pub mod Active
pub mod Laws
