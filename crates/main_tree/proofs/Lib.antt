pub mod HearLemmas
pub mod KeptLemmas
pub mod MadeLemmas
pub mod TableEdits
