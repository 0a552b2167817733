pub mod FileAccounts
pub mod FileHeads
pub mod Files
pub mod FirstUnits
pub mod Differing
pub mod Replayed
mod KeptSteps
mod TrueLogs
