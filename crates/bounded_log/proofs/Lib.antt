mod Lengths
mod Counted
