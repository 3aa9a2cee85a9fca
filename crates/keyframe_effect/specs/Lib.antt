pub mod States
pub mod Groups
pub mod Ready
pub mod Rule
