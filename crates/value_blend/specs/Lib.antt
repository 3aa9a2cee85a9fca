pub mod Blends
pub mod BlendLemmas
pub mod Fixed
