pub mod Plan
pub mod Audit
