-- Computed examples of the definitions, and mistakes that they refuse.
pub mod Examples
pub mod CommitExamples
pub mod CellExamples
pub mod Mistakes
