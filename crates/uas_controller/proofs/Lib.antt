pub mod OwnLaws
pub mod Fronts
pub mod Consumed
pub mod Loans
