-- What rings and collections add up to, and the rule of the table that keeps it so.
pub mod Counts
pub mod Rule
