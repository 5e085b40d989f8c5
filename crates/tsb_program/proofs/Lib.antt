-- what reading a file comes to
pub mod ReadLemmas
-- what is told of a line
pub mod TellLemmas
-- what faults leave of the other devices
pub mod DeviceLemmas
