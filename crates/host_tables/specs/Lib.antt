pub mod MarkLists
pub mod Rows
pub mod States
pub mod CommitGroups
pub mod Elements
pub mod Blocks
pub mod Groups
