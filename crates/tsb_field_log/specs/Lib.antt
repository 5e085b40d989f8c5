-- inputs, the channels of a controller that lead to them, and when a channel is on
pub mod Inputs
-- ticks of a street, and the inputs that are on in each
pub mod Ticks
-- inputs that a bench has, the wires that lead to them, and the form of a log by these
pub mod Wires
-- the wires that are mapped, and from each other channel to the input of its own number
pub mod Mapping
-- what is kept of each wire from event to event
pub mod Leads
-- the rows of a log: where inputs differ from the row before
pub mod Changes
-- how far a street has come by its events
pub mod Streets
-- a street that has taken some events
pub mod Taken
-- the rows that have become known by the events so far
pub mod Pushed
-- what holds of the logs that are written
pub mod Laws
