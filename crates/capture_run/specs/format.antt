pub mod Pcapng
pub mod Usbmon
pub mod Descriptors
