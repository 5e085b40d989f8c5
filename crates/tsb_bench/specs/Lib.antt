-- the rows of the cabinet, what an input does to them, and what holds of each earlier state
pub mod Cabinet
-- what is said of a watched value as it is wound back
pub mod Watched
-- what callers see of a bench, and what it keeps
pub mod Held
-- what becomes of a bench that is given an input
pub mod Applied
-- what is kept of the cabinet before an input, by which its events are found
pub mod Telling
-- what is kept of the heads while no cell changes
pub mod Shown
-- when no tick brings another action of the schedule into force
pub mod Schedule
-- how long the room of the history lasts
pub mod Room
-- the names of crates below, for those above
pub use Rattle.tsb_history.specs as tsb_history
pub use Rattle.tsb_machine.specs as tsb_machine
pub use Rattle.tsb_detect.specs as tsb_detect
pub use Rattle.tsb_step.specs as tsb_step
