pub mod Immediate
pub mod Worlds
pub mod DataOut
pub mod Command
pub mod Wanted
