pub mod Opened
pub mod Books
pub mod Leads
pub mod Ranges
pub mod Lasting
pub mod Sound
pub mod Prefix
pub mod Again
