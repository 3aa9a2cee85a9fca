pub mod FollowLemmas
pub mod MarkLemmas
pub mod StepLemmas
