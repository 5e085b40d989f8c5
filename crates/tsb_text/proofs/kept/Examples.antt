-- Computed mistakes that the laws refuse.
pub mod Mistakes
