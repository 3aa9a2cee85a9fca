pub mod CompositorTurns
pub mod Keeping
pub mod Letters
pub mod MainTurns
pub mod Moments
pub mod Placing
pub mod Right
pub mod UnderWay
