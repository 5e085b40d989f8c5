-- what the code keeps of what a log sees, as the definitions of events have it
pub mod Seen
-- views that agree on the numbers that events name, and that they have the same events
pub mod Agree
-- the order of events
pub mod Order
