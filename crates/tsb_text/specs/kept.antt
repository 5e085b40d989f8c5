-- what is kept of the inputs that remain
pub mod Kept
-- the tick at which an input of rows changed last
pub mod Changed
-- what holds of all that is kept
pub mod Laws
