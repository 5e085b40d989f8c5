-- Computed examples of the definitions, and mistakes that they refuse.
pub mod Examples
pub mod Mistakes
-- Computed mistakes that the definitions refuse.
pub mod SessionMistakes
