pub mod ByLines
pub mod Ends
pub mod Readers
pub mod Streams
