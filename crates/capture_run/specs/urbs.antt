pub mod Lines
pub mod Tds
pub mod Records
