-- Computed examples of the definitions, and mistakes that they refuse.
pub mod TickExamples
pub mod TickMistakes
pub mod PushedExamples
pub mod MappingExamples
