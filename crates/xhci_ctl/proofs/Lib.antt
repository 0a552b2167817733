pub mod Fronts
pub mod Dequeues
pub mod Windows
mod Commanded
