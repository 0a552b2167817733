-- What slips, words and seats mean, the rule of the table, what a closed desk had on it, and what became of each ticket.
pub mod Slips
pub mod Rule
pub mod Seats
pub mod Left
pub mod History
