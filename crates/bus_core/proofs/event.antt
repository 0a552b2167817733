-- The host takes an event.
pub mod DueEvents
pub mod OneTag
pub mod HostSees
pub mod SeenWorlds
pub mod SeenRings
pub mod DoomedCells
pub mod SeenResponses
pub mod SeenStreams
pub mod SeenCommands
pub mod Resumed
pub mod RetiredRing
pub mod RetiredSeen
pub mod EventsFit
