-- Computed examples of the definitions, and mistakes that they refuse.
pub mod Examples
pub mod SpentExamples
pub mod RequestExamples
pub mod Mistakes
pub mod LawMistakes
pub mod RangeMistakes
