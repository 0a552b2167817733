pub mod Ring
pub mod Items
pub mod Segment
