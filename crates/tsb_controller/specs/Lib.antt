-- the rows of cells of the seven layers, and the state that they have at a tick
pub mod Rows
-- the rows of `Controller`, now and at the last `open`, and whether its layers are open
pub mod Layer
-- what the layers hand one another in a tick: what is found before the calls, and what is done after them
pub mod Found
-- what the moves of the rings make of the phases, call by call and all together
pub mod Carried
-- the cells that differ, by their numbers in the bench, and rows with these put back
pub mod Records
-- what a display is made from, by the contracts of the layers
pub mod Shown
-- what the log of a controller sees of the layers
pub mod Seen
-- what ends the greens that a tick ends
pub mod Causes
-- the clauses of the public calls of `Controller`
pub mod Promises
-- the clauses of the calls for its status
pub mod StatusPromises
-- ticks that may be passed over: up to which one all layers stay as they are
pub mod Passing
-- the rows of the whole bench, with plan, desk and monitor, and laws of records over them
pub mod Whole
