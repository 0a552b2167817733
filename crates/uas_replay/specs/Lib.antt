pub mod Printed
pub mod Told
pub mod Runs
pub mod Headline
pub mod Walks
pub mod Moments
