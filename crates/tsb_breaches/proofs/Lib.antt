pub mod AllLemmas
pub mod NoneLemmas
pub mod PhaseLaws
pub mod SequenceLaws
pub mod PreemptLaws
pub mod PatternLaws
pub mod CoordinationLaws
pub mod ScheduleLaws
pub mod ArrowLaws
pub mod LawLemmas
pub mod Examples
pub use Rattle.tsb_plan.proofs as tsb_plan
pub use Rattle.tsb_types.proofs as tsb_types
