-- what inputs have told, and how it is taken back
pub mod Told
-- what the inputs of a run tell
pub mod Along
-- what holds of all events
pub mod Laws
-- what is told of a line that is no command, or that is refused
pub mod Faults
-- which inputs commands leave, and how lines end a record
pub mod Leaves
-- what is told of a line
pub mod Lines
-- what private functions of a record promise each other
pub mod Recording
-- how the record of a run ends
pub mod Ended
