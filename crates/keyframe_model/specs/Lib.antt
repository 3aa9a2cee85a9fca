pub mod Models
pub mod Views
pub mod Worked
