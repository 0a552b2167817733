-- What the whole controller makes of its device, as calls on it.
pub mod Turns
pub mod Rounds
pub mod Laws
