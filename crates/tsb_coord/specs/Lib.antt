-- the pattern that runs, its local counter, and hold, force-off, pedestrian recycle and omit by it
pub mod Coordinated
-- the clock, and the midnight that a local counter counts from
pub mod Clock
-- how the local counter comes into step once a pattern is selected
pub mod Correction
-- how it goes, for event logs
pub mod Cycle
-- the cells, read and written, and the rows that can be
pub mod Cells
-- the clauses of the public calls of `Coord`
pub mod Promises
-- the cells of `Coord`, now and at the last `open`
pub mod Layer
-- until when orders stay, for `Coord::due`
pub mod Due
-- that forced phases clear where their splits end, that counters come into step, and what holds of the cells
pub mod Laws
-- what offsets are counted to comes at them, and only when local 0 comes counts
pub mod OffsetLaws
