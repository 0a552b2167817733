mod Counts
mod Steps
mod Packets
mod Endings
