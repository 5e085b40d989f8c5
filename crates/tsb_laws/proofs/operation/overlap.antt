-- Overlaps and the phases that they include.
pub mod OverlapPhaseLemmas
pub mod OverlapGreenLemmas
