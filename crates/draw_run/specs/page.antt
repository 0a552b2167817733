pub mod Embedded
pub mod Page
