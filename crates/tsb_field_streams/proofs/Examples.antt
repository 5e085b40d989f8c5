-- Mistakes that the definitions refuse.
pub mod SortMistakes
-- Mistakes that the definitions refuse.
pub mod OrderMistakes
-- A mistake in how zones are seen.
pub mod ZoneMistakes
