-- Computed examples of the definitions, and mistakes that the laws refuse.
pub mod Mistakes
pub mod Weeks
