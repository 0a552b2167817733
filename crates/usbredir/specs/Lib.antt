pub mod Kinds
pub mod Guest
pub mod Device
pub mod Hello
pub mod Rows
