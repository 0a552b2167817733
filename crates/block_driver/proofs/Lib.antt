pub mod Places
pub mod Marks
pub mod Firsts
pub mod Wholes
pub mod Kept
