pub mod Options
pub mod Subcommands
pub mod CommandLine
