pub mod Loans
pub mod Pending
pub mod Rooms
pub mod Least
pub mod Waiting
pub mod Turns
pub mod Refusing
pub mod Looking
