-- what breaks a rule, by what it is on
pub mod Phases
pub mod Sequences
pub mod Lists
pub mod Patterns
-- rules K24 to K27
pub mod Schedules
-- THE WAYS TO BREAK A RULE: which there are, and all that a plan has
pub mod Breaches
-- breaches one by one
pub mod Found
-- the numbers that the line of a breach shows
pub mod Numbers
-- what holds of all breaches of a plan
pub mod Laws
-- the names of crates below, for those above
pub use Rattle.tsb_review.specs as tsb_review
pub use Rattle.tsb_rules.specs as tsb_rules
pub use Rattle.tsb_plan.specs as tsb_plan
pub use Rattle.tsb_types.specs as tsb_types
