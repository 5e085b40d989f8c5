-- which devices rows are of, and the line that names them
pub mod Devices
-- which channels lead to no input, and how they are named
pub mod Channels
-- what lines of events come to, one after another
pub mod Filtering
-- how far a filter has come
pub mod Standing
-- what a text of events comes to, line after line
pub mod Lines
-- what a filter of a stream has read and written
pub mod Streaming
-- which device is blamed where a filter ends
pub mod Blame
-- times of day as faults show them
pub mod Clocks
-- what holds of rows that are sorted within a window
pub mod SortLaws
-- what holds of rows that say their zones
pub mod ZoneLaws
-- the line that tells what ended a filter
pub mod FaultLines
-- rows in the order of time
pub mod Order
-- what is held
pub mod Holding
-- what holds of sorted rows
pub mod OrderLaws
