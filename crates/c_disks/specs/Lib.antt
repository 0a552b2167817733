-- C's record of a logical unit of which there is something to tell.
pub mod Records
