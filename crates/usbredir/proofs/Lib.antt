pub mod Numbers
pub mod Heads
pub mod Guests
pub mod Tables
pub mod Requests
pub mod Replies
pub mod RepliesBack
pub mod Hellos
