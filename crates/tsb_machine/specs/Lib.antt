-- a machine that takes inputs and keeps a record of each, its replays and its runs
pub mod Machine
-- the machine with its records, and these taken back
pub mod Past
-- the tick number at which a watched value changed last
pub mod Watches
-- the inputs that commands leave, which answers are right, and what a bench does
pub mod Play
-- what holds of the way back, where each record takes its input back
pub mod Laws
-- the names of crates below, for those above
pub use Rattle.tsb_history.specs as tsb_history
