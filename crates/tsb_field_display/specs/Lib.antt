-- what is shown before the first line, and that no head is in two sets
pub mod Shows
-- what a display line shows, by its bytes
pub mod Reading
-- the events that come of a change, and of lines
pub mod Events
-- the lines that remain of a session that went back, and those at which something changed
pub mod Remaining
-- what events tell of heads
pub mod ReadBack
-- what holds of lines and events, told without how they are found
pub mod Laws
-- the display lines in what a session answers, byte after byte
pub mod Stream
-- the events of inputs, by the rows of a log
pub mod Inputs
-- the events of a session, in one order
pub mod Merge
-- the moment of a tick, and whether it can be written
pub mod Ticks
-- the text of events
pub mod Texts
-- what holds of the events of a session, told without how they are found
pub mod SessionLaws
