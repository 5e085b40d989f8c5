-- Live runs that meet what the laws need, and mistakes that they refuse.
pub mod LiveExamples
pub mod GoToExamples
