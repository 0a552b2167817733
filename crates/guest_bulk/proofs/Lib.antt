pub mod Zeros
pub mod Counted
pub mod Moving
pub mod Lacking
pub mod Edges
