pub mod Booking
pub mod Growing
