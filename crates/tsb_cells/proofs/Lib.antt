pub mod BlockLemmas
mod BlockChangeLemmas
pub mod ChangeLemmas
pub mod DiffLemmas
pub mod PartLemmas
pub mod RowLemmas
pub mod TimerLemmas
pub mod TableLemmas
pub mod WriteLemmas
pub mod Examples
