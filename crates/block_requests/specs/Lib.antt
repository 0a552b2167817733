pub mod Submissions
pub mod Tds
pub mod Outcomes
