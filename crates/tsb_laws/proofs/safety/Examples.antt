-- Computed mistakes that the laws of safety refuse, and runs that meet their premises.
pub mod SafetyMistakes
pub mod SafetyWitnesses
pub mod PlanFits
pub mod TickRuns
pub mod StretchRuns
pub mod MistakenTicks
pub mod CommitmentRuns
pub mod WalkRuns
pub mod CrossingRuns
pub mod CoordinationRuns
pub mod ClearanceRuns
pub mod RedRevertRuns
pub mod AllRedRuns
pub mod RunMistakes
