pub mod RunLemmas
pub mod TypedLemmas
pub mod Examples
