pub mod Samples
pub mod Views
