pub mod Places
pub mod Splice
pub mod Buffers
pub mod BytesLending
pub mod BuffersLending
pub mod FramesLending
