-- What C sees of a controller over its memory.
pub mod Asked
pub mod CallLaws
pub mod Looked
pub mod Made
pub mod RegionLaws
pub mod Regions
pub mod Saving
pub mod Turned
pub mod XhciCall
