pub mod Drawn
pub mod Elements
pub mod Frame
pub mod Marks
pub mod Picture
pub mod Points
