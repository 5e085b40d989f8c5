pub mod TickLemmas
pub mod ChangeLemmas
pub mod LiveLemmas
pub mod EndLemmas
pub mod LawLemmas
pub mod Examples
