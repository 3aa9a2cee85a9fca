pub mod Courses
pub mod Laws
pub mod Moments
pub mod Turns
