-- What a tick and other inputs make of phases and rings: for more than one law of operation.
pub mod TickLemmas
pub mod CalmLemmas
pub mod AcrossLemmas
pub mod StartLemmas
pub mod TurnListLemmas
pub mod TurnRingLemmas
pub mod OpenTickLemmas
pub mod PhaseTimeLemmas
pub mod PhaseLeftLemmas
