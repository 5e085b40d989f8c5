-- rules K6 and K7: what a sequence has for each ring
pub mod SequenceRules
-- rules K17 to K20 and K23: offsets, splits, cycles, coordinated phases and permissive times of used patterns, and when
-- a split ends
pub mod PatternRules
-- rules K24 to K27: the schedule
pub mod ScheduleRules
-- all other rules, and the first of K1 to K29 that a plan breaks
pub mod Rules
-- what a check asks one by one of phases, overlaps, preempts and patterns
pub mod Asked
-- what every plan that breaks no rule is like
pub mod Consistent
