-- Computed examples of the definitions, and mistakes that they refuse.
pub mod Examples
pub mod MemoryExamples
pub mod EnabledExamples
pub mod Mistakes
pub mod RangeMistakes
