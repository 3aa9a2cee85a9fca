pub mod Moves
pub mod Outcomes
pub mod Beginning
