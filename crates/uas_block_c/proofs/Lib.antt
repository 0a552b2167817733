mod Answered
mod Handing
mod OverSlice
