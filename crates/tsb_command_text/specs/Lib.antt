-- dates and times of day, as a clock is set by them
pub mod clock
-- numbers of phases, detectors and stations, and lamps of heads, as commands write them
pub mod Lamps
-- objects by the lengths of their names
pub mod Objects
-- which command the words of a line are
pub mod Commands
-- what a line asks of a session: a command, or nothing; or it is bad
pub mod Readings
-- which command of a live session the words of a line are
pub mod LiveCommands
-- what a line asks of a live session: a tick with inputs, a command, or nothing; or it is bad
pub mod LiveReadings
-- what holds of lines of a live session
pub mod Laws
