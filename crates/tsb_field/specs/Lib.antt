-- the lines that the program tells
pub mod Lines
-- the lines in which `log` tells what it read
pub mod LogLines
-- the lines of detectors whose delay and extension act twice
pub mod Twice
-- how `log` ends
pub mod LogEnds
-- how `review` ends
pub mod ReviewEnds
-- how `card` ends
pub mod CardEnds
-- the ends of greens in the event log of a diagram
pub mod GreenEnds
-- the clock that a record begins with
pub mod Clocks
-- what the program has done and written for the words that it was given
pub mod Ends
