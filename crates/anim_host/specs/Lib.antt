pub mod Hosting
pub mod Standing
pub mod Fits
pub mod Ticks
pub mod Ready
