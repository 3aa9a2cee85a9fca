pub mod FirstCommits
pub mod NextCommits
pub mod Indices
