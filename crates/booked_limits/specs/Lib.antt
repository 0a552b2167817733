-- Logs that have a text.
pub mod Fitting
