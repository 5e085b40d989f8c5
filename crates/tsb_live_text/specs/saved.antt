-- the line of a log and commands
pub mod Saved
-- the contracts of private calls
pub mod Says
-- what holds of that line
pub mod Laws
-- what commands leave over a log, where nothing is refused
pub mod Taken
