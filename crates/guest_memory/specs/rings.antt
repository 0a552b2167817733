pub mod Words
pub mod Trbs
pub mod Ends
pub mod Events
pub mod Saved
pub mod Past
pub mod Wanted
pub mod WantedLaws
