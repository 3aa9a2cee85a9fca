pub mod Delegates
pub mod Table
