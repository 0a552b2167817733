-- A submission and a task management.
pub mod SubmissionFaults
pub mod TaskFaults
pub mod SubmittedLines
pub mod Submitting
pub mod TaskSubmitting
pub mod Submitted
pub mod TaskSubmitted
