-- how the program ends
pub mod EndLemmas
-- texts of several pieces
pub mod ReportLemmas
-- the lines of detectors
pub mod TwiceLemmas
-- clocks of moments, computed
mod ClockExamples

-- a text of two parts
