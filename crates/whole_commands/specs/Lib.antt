pub mod transfers
pub mod Labels
pub mod Reads
pub mod Writes
pub mod OnTheBus
