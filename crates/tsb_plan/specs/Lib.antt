-- THE TABLE of objects: names, indices, ranges, and where the cells of each are
pub mod Objects
-- the two versions of plan texts: which objects each has, and the place that an index of version 1 gets
pub mod Versions
-- the names of objects, byte by byte, and which object has a name
pub mod Names
-- the plan as definitions read it: phases, rings, sides, concurrency, timings, recalls and sequences
pub mod Plan
-- detectors, overlaps, patterns, split tables and preempts of a plan
pub mod Parts
-- what is in effect while a pattern runs, and in free operation
pub mod Running
-- what a plan says of the calendar: entries, day plans and actions
pub mod Schedule
-- which entry holds of a day
pub mod Holding
-- which action is in force at a moment
pub mod Acting
-- the plan in the cells of a plan in memory, and what reading and writing a value answer
pub mod PlanOf
-- the built-in plan of two phases in one ring
pub mod Two
-- the built-in plan of eight phases in two rings
pub mod Quad
-- that no two objects, cells or values are taken for one another
pub mod Laws
-- that no two translated indices or names are taken for one another
pub mod VersionLaws
