-- Sessions that meet the premises, and mistakes that the laws refuse.
pub mod Witness
pub mod Mistakes
