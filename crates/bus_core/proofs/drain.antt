-- The loops over tags of a round.
pub mod DrainTags
pub mod BusyTags
