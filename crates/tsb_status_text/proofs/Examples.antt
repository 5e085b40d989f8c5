-- Computed examples of the definitions, and mistakes that they refuse.
pub mod Examples
pub mod Lines
pub mod Mistakes
-- Computed examples of the definitions, and mistakes that they refuse.
pub mod PlanLines
pub mod PlanMistakes
