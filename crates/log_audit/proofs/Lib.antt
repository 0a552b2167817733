pub mod Silent
pub mod Tagged
pub mod Owned
pub mod Accounts
pub mod Matching
