pub mod Follows
pub mod Frames
pub mod Marks
pub mod Runs
pub mod Scripts
pub mod Views
