pub mod Timings
pub mod Worked
