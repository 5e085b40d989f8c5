pub mod LimitLemmas
pub mod NumberLemmas
pub mod RiseLemmas
pub mod SaysLemmas
pub mod TableLemmas
pub mod TextLemmas
pub mod NoteLemmas
pub mod Examples
