-- Descriptors of a USB device: bytes cut into descriptors, the device descriptor, the UAS setting and its pipes, streams.
pub mod Fields
pub mod Cutting
pub mod Device
pub mod Totals
pub mod Endpoints
pub mod Pipes
pub mod Function
pub mod Streams
pub mod Texts
pub mod Rows
