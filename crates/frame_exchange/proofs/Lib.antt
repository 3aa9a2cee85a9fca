pub mod BoardLemmas
pub mod WordLemmas
