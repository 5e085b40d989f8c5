-- which cells changed, with their values before, and how these are put back
pub mod Diff
-- what holds of such differences
pub mod DiffLaws
-- the cells of a layer, now and at the last `open`
pub mod Bank
-- which cells of a bank were written, by the word that marks their blocks, and what they held
pub mod Blocks
-- one value among the cells of a bank
pub mod Row
-- timers in ticks, and the cells that tell when they began
pub mod Timer
-- that a timer is read as it was written
pub mod TimerLaws
-- that one cell of a row changes and no other
pub mod Lists
