-- The forms of what a controller keeps.
pub mod Consumers
pub mod Registers
pub mod Slots
pub mod Control
pub mod Pipes
pub mod Tags
pub mod Bulk
pub mod BulkTexts
pub mod Transfers
pub mod Texts
pub mod PipesTexts
