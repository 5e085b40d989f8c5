-- Walks that begin within a green, by pedestrian recycle.
pub mod RecycleTimeLemmas
pub mod RecycledTickLemmas
pub mod RecycledRunLemmas
