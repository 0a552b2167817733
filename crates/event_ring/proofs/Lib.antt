pub mod Shifts
pub mod Segment
