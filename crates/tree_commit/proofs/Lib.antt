pub mod Among
pub mod BookLemmas
pub mod OverLemmas
pub mod TableLemmas
