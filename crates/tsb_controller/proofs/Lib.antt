pub mod StatusLemmas
pub mod WaitTellLemmas
pub mod StatusSetLemmas
mod CarryLemmas
mod PlacedLemmas
pub mod OverlapLemmas
mod MovesLemmas
mod TickLemmas
mod LaterLemmas
mod KeptLemmas
mod PassLemmas
mod StillLemmas
pub mod EarlyLemmas
pub mod InputLemmas
mod WatchLemmas
mod FewLemmas
pub mod WholeLemmas
pub mod ChangeLemmas
mod CauseLemmas
mod ReaderLemmas
pub mod SeenLemmas
pub mod EndingLemmas
pub mod WaitLemmas
pub mod Examples
pub mod PartLemmas
mod PlanChangeLemmas
mod WordLemmas
