-- The disk that a usbredir session drives.
pub mod Fixed
pub mod Device
pub mod Bulk
pub mod Serving
pub mod Calls
pub mod Laws
