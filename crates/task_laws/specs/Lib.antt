-- The device without blocks in front of somebody who does each request at once, and what it has in common with the device with blocks.
pub mod Backed
pub mod Same
pub mod Laws
