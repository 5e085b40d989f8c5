-- the exit status of each end
pub mod Statuses
-- what fails a program, and how it ends then
pub mod Failures
-- what the files that were read give
pub mod Read
-- the lines of what ended a run
pub mod Lines
-- what a second line says of a text that is refused
pub mod Clues
-- second lines: what is said of a plan's text, and which file was not read
pub mod Told
-- what is seen of the devices of a program
pub mod Devices
-- bad words, and what a run does after a fault
pub mod Runs
-- the names of crates below, for those above
pub use Rattle.tsb_lines.specs as tsb_lines
pub use Rattle.tsb_log_text.specs as tsb_log_text
pub use Rattle.tsb_plan_notes.specs as tsb_plan_notes
