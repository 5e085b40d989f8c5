pub mod SplitLemmas
pub mod AgreeLemmas
pub mod OrderLemmas
pub mod Examples
