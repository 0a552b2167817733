pub mod Tallies
pub mod WorkEnds
pub mod Audits
pub mod SavedEnds
pub mod KeptTexts
pub mod KeptEnds
