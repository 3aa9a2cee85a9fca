pub mod Lanes
pub mod Grown
pub mod Keeps
pub mod Turns
pub mod Moves
pub mod Ends
