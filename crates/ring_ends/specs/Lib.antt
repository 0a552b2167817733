pub mod Counted
pub mod EndLaws
pub mod TurnLaws
pub mod Held
pub mod HeldLaws
