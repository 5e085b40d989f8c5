-- plans, and the pairs of their cards
pub mod Mistakes
