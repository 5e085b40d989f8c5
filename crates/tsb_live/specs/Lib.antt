-- the lines that the program writes of bad words
pub mod Lines
-- what the program has done and written for the words that it was given
pub mod Ends
