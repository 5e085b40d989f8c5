-- Computed examples of the definitions, and mistakes that they refuse.
pub mod Examples
pub mod GreenExamples
pub mod MaximumExamples
pub mod PedestrianExamples
pub mod ClearanceExamples
pub mod CauseExamples
pub mod PatternExamples
pub mod CellsExamples
pub mod Mistakes
pub mod PatternMistakes
pub mod LawMistakes
pub mod MoveMistakes
pub mod RangeMistakes
