-- Logical units of virtual disks: what is said of them, and the bytes that tell it.
pub mod Data
pub mod Designators
pub mod Digits
pub mod Names
pub mod Pages
pub mod Printable
pub mod Told
pub mod Units
