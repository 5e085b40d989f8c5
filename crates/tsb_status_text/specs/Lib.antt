-- what is added to a line, and what it has room for
-- JSON of short lists and objects
pub mod Json
-- the names of states
pub mod Names
-- the line of a status
pub mod StatusText
-- statuses of which a line says the same
pub mod Alike
-- the line of a plan
pub mod PlanLine
-- the line of the desk
pub mod EditsLine
-- that line byte by byte
pub mod Bytes
-- that lines are read as what they tell
pub mod Laws
