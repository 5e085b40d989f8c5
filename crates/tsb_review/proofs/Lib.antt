pub mod LoopLemmas
pub mod ScheduleLemmas
pub use Rattle.tsb_plan.proofs as tsb_plan
pub use Rattle.tsb_types.proofs as tsb_types
