-- Calls are kept and served: in free operation, and in patterns by the same proof.
pub mod KeptCallLemmas
pub mod CalledStartLemmas
pub mod RingPlaceLemmas
pub mod RingStepLemmas
pub mod WayStageLemmas
pub mod WayTickLemmas
pub mod WayCrossLemmas
pub mod CourseLemmas
pub mod FreeGreenLemmas
pub mod FreeRunLemmas
