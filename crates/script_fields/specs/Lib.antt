pub mod Numbers
pub mod Fields
pub mod Keywords
pub mod Easings
pub mod Lists
pub mod Values
pub mod Printed
