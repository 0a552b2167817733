mod Over
mod OverRegions
pub mod Requests
