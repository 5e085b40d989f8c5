-- Computed witnesses of the premises, and mistakes that the laws refuse.
pub mod Witness
pub mod Mistakes
pub mod Edits
