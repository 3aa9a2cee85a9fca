pub mod Curves
pub mod Worked
