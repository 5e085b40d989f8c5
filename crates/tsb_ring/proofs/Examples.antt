-- Computed examples of the definitions, and mistakes that they refuse.
pub mod Scenes
pub mod Examples
pub mod CrossingExamples
pub mod TargetExamples
pub mod GivenUpExamples
pub mod PremiseExamples
pub mod CellsExamples
pub mod Mistakes
pub mod LawMistakes
pub mod RangeMistakes
