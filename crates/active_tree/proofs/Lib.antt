pub mod AgreeLemmas
mod CountLemmas
mod KeptLemmas
mod ListLemmas
mod RowLemmas
