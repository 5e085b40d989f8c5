-- Computed mistakes that the definitions refuse.
pub mod NoteMistakes
