pub mod Rows
pub mod Elements
