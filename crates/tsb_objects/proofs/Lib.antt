pub mod CheckedLemmas
pub mod PassLemmas
pub mod TableLemmas
pub mod InstantLemmas
mod UnionLemmas
mod AgreementLemmas
mod RangeLemmas
pub mod Examples
pub use Rattle.tsb_types.proofs as tsb_types
pub use Rattle.tsb_plan.proofs as tsb_plan
pub use Rattle.tsb_rules.proofs as tsb_rules
