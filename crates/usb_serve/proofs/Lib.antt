pub mod Reading
pub mod Gathering
pub mod Stepping
pub mod Filing
pub mod Serving
pub mod Reports
