pub mod Journals
pub mod Keeping
pub mod Sides
pub mod Words
