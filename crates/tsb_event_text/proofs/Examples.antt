-- Computed examples of the definitions, and mistakes that they refuse.
pub mod LineExamples
pub mod LineMistakes
pub mod FormExamples
pub mod FormMistakes
