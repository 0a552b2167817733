-- A log with a limit in bytes.
pub mod Bytes
