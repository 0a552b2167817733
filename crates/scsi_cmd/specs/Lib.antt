-- What CDBs, sense data and the requests and replies of the layers above mean.
pub mod Fields
pub mod Op
pub mod Sense
pub mod Meaning
pub mod Data
pub mod Work
pub mod Buffers
pub mod Faults
pub mod Held
pub mod Request
pub mod Replies
pub mod Copies
pub mod Submission
pub mod Laws
