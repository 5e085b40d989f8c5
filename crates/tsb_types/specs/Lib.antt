-- lists of phase numbers, cut at a phase or searched by a test, and numbers that may be none
pub mod Lists
-- sets of phases, detectors and preempts, and the numbers that spell them in a plan and in cells
pub mod Sets
-- events, and the words that say which there are
pub mod Events
-- functions of the phase number, compared and kept on phases 1 to 16 alone
pub mod Clip
-- tests of the interval of a vehicle head and of a pedestrian head
pub mod Intervals
-- what layers give one another of intervals, targets and refusals, phase by phase
pub mod Flow
-- that lists of phases and tests of phases agree
pub mod Laws
-- dates and their numbers
pub mod Calendar
