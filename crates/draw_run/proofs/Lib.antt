mod Owners
mod Plain
mod Rows
mod Reading
