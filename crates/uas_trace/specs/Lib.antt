pub mod Traced
pub mod Written
pub mod Texts
