-- Computed examples of the definitions, and mistakes that they refuse.
pub mod Examples
pub mod LawMistakes
pub mod RangeMistakes
