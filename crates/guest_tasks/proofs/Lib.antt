mod Asking
mod Marked
mod Kept
mod Calls
mod Restored
