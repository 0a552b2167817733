pub mod checksum
pub mod Records
pub mod Finding
