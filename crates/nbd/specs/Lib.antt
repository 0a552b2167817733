pub mod Transmission
pub mod Handshake
