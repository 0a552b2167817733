-- Sense data that say where.
pub mod Formats
pub mod Laws
