-- What C sees of a driver.
pub mod BlockCall
pub mod Made
pub mod Numbers
pub mod Puts
pub mod Told
