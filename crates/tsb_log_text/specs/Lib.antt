-- the line of 38 bytes that spells a row of inputs
pub mod Rows
-- the line that spells a row by lists
pub mod RowLists
-- the two forms of a log
pub mod Forms
-- the text of rows
pub mod LogText
-- the text of rows by lists
pub mod ListText
-- whether one of the inputs of a row is on
pub mod RowInputs
-- the rows of a text or its first error, and the row in force at a tick
pub mod Logs
-- how many rows have come by a tick
pub mod Places
-- what reading one further line makes of the rows so far
pub mod Steps
-- what holds of logs, told without how they are read
pub mod Laws
-- the line that tells a fault
pub mod FaultLines
-- the names of crates below, for those above
pub use Rattle.tsb_types.specs as tsb_types
