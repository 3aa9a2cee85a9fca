pub mod Cuts
pub mod Keys
pub mod Books
pub mod Steps
