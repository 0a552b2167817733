-- Bulk-Only Transport at the ends of two rings: commands, data, statuses, a step of each pipe, and what it lacks.
pub mod Commands
pub mod Verdicts
pub mod Outgoing
pub mod Incoming
pub mod Steps
pub mod Wanted
pub mod Through
pub mod Laws
pub mod Rows
pub mod Breaks
