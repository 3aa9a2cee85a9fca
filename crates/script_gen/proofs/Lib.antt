pub mod Books
pub mod Edits
pub mod Lanes
pub mod Numbers
pub mod Values
pub mod WellFormed
