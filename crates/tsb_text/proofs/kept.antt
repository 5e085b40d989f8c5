pub mod KeptLemmas
pub mod ChangeLemmas
pub mod LawLemmas
pub mod Examples
