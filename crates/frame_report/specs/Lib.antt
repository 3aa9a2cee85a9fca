pub mod Summaries
pub mod Texts
pub mod Worked
