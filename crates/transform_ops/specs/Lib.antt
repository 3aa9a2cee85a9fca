pub mod ListLemmas
pub mod Lists
pub mod OperationLemmas
pub mod Operations
