-- what calls a phase, and which phases conflict with it
pub mod Calls
-- splits, and what a late green does to those that wait
pub mod Splits
-- where phases stand as usual
pub mod Legs
-- the advices, by what they are on
pub mod Service
pub mod Entry
pub mod Pedestrians
pub mod Clearance
pub mod Actuation
pub mod Detection
pub mod Unused
-- on the schedule
pub mod Schedules
pub mod Coordination
pub mod Preempts
pub mod Overlaps
-- patterns in which an advice says the same
pub mod Alike
-- what phases are sought for
pub mod Sought
-- the places that advices are given for
pub mod Places
-- THE ADVICES: which there are, and all that hold of a plan
pub mod Advices
-- findings one by one
pub mod Findings
-- the numbers that the line of a finding shows
pub mod Numbers
-- THE WORKSHEET: the longest entry of a preempt, and what patterns give phases
pub mod Worksheet
-- the names of crates below, for those above
pub use Rattle.tsb_plan.specs as tsb_plan
pub use Rattle.tsb_types.specs as tsb_types
