-- what `clap` makes of words, and why they ask for nothing
pub mod Words
-- the commands of the programs, as tables, and as `clap` reads them
pub mod Commands
-- what the words of `tsb` ask for
pub mod BenchWords
-- its command as `clap` reads it
pub mod BenchProgram
-- what words of `tsb_field` may ask for
pub mod FieldWords
-- wires as words spell them
pub mod Wires
-- its command as `clap` reads it, and what is made of what it answers
pub mod FieldProgram
-- what the words of `tsb_live` ask for
pub mod LiveWords
-- its command as `clap` reads it
pub mod LiveProgram
-- the pages that words ask for: versions, and how programs are used
pub mod Pages
-- right words that were perhaps meant by wrong ones
pub mod Near
-- words as lines show them
pub mod Shown
-- what is wrong with words of `tsb_field`, and the line that says it
pub mod Wrong
