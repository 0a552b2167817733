pub mod TaggedTask
pub mod Soundness
pub mod Solo
pub mod Laws
