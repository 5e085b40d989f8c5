pub mod RuleLemmas
pub mod ConsistentLemmas
pub mod TwoLemmas
pub mod Examples
