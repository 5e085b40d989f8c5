pub mod TripLemmas
pub mod TimedLemmas
pub mod LitLemmas
pub mod ClearLemmas
pub mod Examples
