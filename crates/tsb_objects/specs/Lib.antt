-- when a pattern forces each phase off, on its local counter, how long it does late, and in which permissive time
pub mod Instants
-- the tables of phases and detectors of a checked plan
pub mod Tables
-- the overlaps that have intervals of their own, as sets
pub mod TimedOverlaps
-- the tables of patterns and of free operation of a checked plan
pub mod PatternTables
-- the unions of sets of phases that a checked plan has at hand
pub mod Unions
-- plans that agree on the objects that tables are made from
pub mod Agreement
-- the longest red revert time of a plan
pub mod RedReverts
-- the plan of a checked plan
pub mod Checked
-- the names of crates below, for those above
pub use Rattle.tsb_types.specs as tsb_types
pub use Rattle.tsb_plan.specs as tsb_plan
pub use Rattle.tsb_rules.specs as tsb_rules
