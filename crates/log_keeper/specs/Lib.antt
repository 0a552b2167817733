pub mod Entries
pub mod Syncing
pub mod Stops
pub mod Beginnings
