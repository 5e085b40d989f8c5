-- what an overlap with intervals of its own is in, and what a tick makes of it
pub mod Overlap
-- the table of cells, read and written, and the rows that can be
pub mod Cells
-- the cells of `TimedOverlaps`, now and at the last `open`
pub mod Layer
-- what overlaps see, read from memory
pub mod Reading
-- what is done to the part of a row that keeps one overlap
pub mod Parts
-- the clauses of the public calls of `TimedOverlaps`
pub mod Promises
-- what holds of overlaps whatever a tick gives them
pub mod Laws
