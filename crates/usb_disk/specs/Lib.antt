-- Endpoint 0 of the disk: its descriptors, and what each request of USB 3.2 chapter 9 does and answers.
pub mod Strings
pub mod Descriptors
pub mod Requests
pub mod Answers
pub mod Rows
