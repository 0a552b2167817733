-- Wrappers of Bulk-Only Transport as bytes, and the thirteen cases.
pub mod Command
pub mod Status
pub mod Cases
pub mod Laws
pub mod Rows
