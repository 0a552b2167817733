pub mod Questions
pub mod Shapes
pub mod Puts
pub mod Ends
pub mod Steps
pub mod Table
pub mod Calls
pub mod Rows
