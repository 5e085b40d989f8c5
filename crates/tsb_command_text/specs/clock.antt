-- a date and a time of day as two words
pub mod ClockText
-- that what is written is read again
pub mod Laws
