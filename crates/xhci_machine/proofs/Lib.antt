pub mod Begun
pub mod Same
pub mod Tags
pub mod Working
pub mod OneStep
pub mod Asked
pub mod Left
pub mod Nothing
pub mod Device
pub mod BulkDevice
pub mod RingStep
pub mod Active
pub mod Looks
mod SlotTaken
mod OrdersTaken
pub mod Taken
pub mod TurnsTaken
pub mod KeptExact
pub mod Fronts
pub mod ActiveExact
pub mod Bodies
pub mod SavedRead
