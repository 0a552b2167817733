pub mod Filled
mod Rows
pub mod Told
