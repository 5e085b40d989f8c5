-- how a text is split into lines, and which lines are skipped
pub mod Lines
-- the words of a line, and the numbers that they spell
pub mod Words
-- numbers as decimal digits
pub mod Digits
-- what holds of lines and words
pub mod Laws
-- what a writer has taken of a text
pub mod Writes
-- lines of a greatest length
pub mod ShortLines
-- what is seen of a reader or a writer
pub mod Seen
