-- What is held and kept at the places of a guest's disk.
pub mod States
pub mod Rooms
pub mod Places
pub mod Laws
