-- A run of two plans that differ in the correction limit, and one of two that differ in offsets alone; a run without
-- options; and mistakes that the laws refuse.
pub mod LimitRuns
pub mod OffRuns
pub mod OffsetRuns
pub mod ReadRuns
