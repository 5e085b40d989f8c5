-- Arrows and overlaps that trail.
pub mod ArrowRunLemmas
pub mod CardLemmas
pub mod Examples
