-- What a line of bytes tells, its text, and the text of all lines.
pub mod Line
pub mod Meaning
pub mod Named
pub mod Names
pub mod Printed
pub mod Runs
