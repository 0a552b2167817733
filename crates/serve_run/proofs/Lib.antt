mod Answering
mod Asking
mod Beginnings
mod Flushing
mod Handshakes
mod Sending
mod Talking
mod Transcripts
