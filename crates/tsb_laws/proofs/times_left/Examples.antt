-- Runs that meet the premises of the laws of times that are left, and mistakes that these laws refuse.
pub mod TickTests
pub mod LeftRuns
pub mod ClearingRuns
pub mod LackRuns
pub mod RevertRuns
pub mod ForceOffRuns
