pub mod Answers
pub mod Commands
pub mod Outside
pub mod Promises
pub mod Statuses
