-- the text of each advice, with letters where numbers stand
pub mod Templates
-- the text of each breach, likewise
pub mod BreachTemplates
-- the line of a finding or of a breach, and the text of a review
pub mod Lines
-- a line piece by piece
pub mod Bytes
-- what a review writes, part by part
pub mod Written
-- what a schedule runs in a week
pub mod Week
-- the same as a picture
pub mod WeekPicture
-- the lines of a worksheet
pub mod Worksheet
