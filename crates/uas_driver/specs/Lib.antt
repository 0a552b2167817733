-- The driver without a controller: its parts, the room that it tests, the rings as an event finds them, and what each call makes of it.
pub mod Driver
pub mod Room
pub mod Settled
pub mod Meaning
pub mod Counted
pub mod Taking
pub mod Endings
pub mod Recovery
pub mod Telling
pub mod Looks
pub mod Places
pub mod Calls
