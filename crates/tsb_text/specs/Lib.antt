-- lists of things that have a tick, and back to a tick
pub mod Later
-- the inputs of a run that remain, kept so that they can be given again
pub mod kept
-- the rows that ticks take
pub mod Rows
-- what is answered to each command
pub mod Answers
-- what is told of a line that is no command, or that is refused
pub mod Faults
-- the line that ends a strict run or record
pub mod Stops
-- what a command asks
pub mod Tasks
-- what a command comes to where more may be said
pub mod Obeys
-- what is said where something follows an input
pub mod Trails
-- what has become of a bench and of a writer once a command was carried out
pub mod Obeyed
-- when there is no memory for an input
pub mod Wanting
-- what a session says to a line
pub mod Replies
-- what is answered to all lines of a session
pub mod Text
-- what a session has written where it ends
pub mod Ended
-- which device is blamed for its fault
pub mod Blame
-- the line of that fault
pub mod EndLines
-- the record of a run
pub mod recording
-- the names of crates below, for those above
pub use Rattle.tsb_dialog.specs.Said as Written
pub use Rattle.tsb_lines.specs as tsb_lines
pub use Rattle.tsb_log_text.specs as tsb_log_text
pub use Rattle.tsb_step.specs as tsb_step
pub use Rattle.tsb_types.specs as tsb_types
pub use Rattle.tsb_objects.specs.tsb_plan as tsb_plan
pub use Rattle.tsb_objects.specs.tsb_rules as tsb_rules
pub use Rattle.tsb_objects.specs as tsb_objects
pub use Rattle.tsb_command_text.specs as tsb_command_text
pub use Rattle.tsb_plan_text.specs as tsb_plan_text
pub use Rattle.tsb_display_text.specs as tsb_display_text
