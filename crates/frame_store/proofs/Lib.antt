pub mod PlacesLaws
pub mod FramesLaws
