-- what `save` answers
pub mod saved
-- the ticks that lead to a moment of the clock
pub mod GoTo
-- what a live run has come to, and what is answered to each line
pub mod Live
-- ticks of which only the changes are told
pub mod Changes
-- what a live run has written where it ends
pub mod LiveEnded
-- what private functions of a live run promise each other
pub mod Standing
-- what holds of all live runs
pub mod Laws
