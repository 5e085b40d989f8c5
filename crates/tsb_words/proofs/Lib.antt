-- commands, as their parts are added one by one
pub mod CommandLemmas
-- what `clap` makes of words
pub mod WordLemmas
-- words that are flags, and words that are none
pub mod FlagLemmas
-- one level of a parse, a word at a time
pub mod LevelLemmas
-- the two subcommands of `tsb`, whatever words stand after their names
pub mod FileLemmas
-- all words of `tsb`
pub mod ProgramLemmas
-- what is made of what was met
pub mod MetLemmas
-- all words of `tsb_live`
pub mod LiveLemmas
-- what options of `tsb_field` say, by what the getters answer
pub mod OptionLemmas
-- words and the wires that they spell
pub mod WireLemmas
-- room in the line of what is wrong with words
pub mod RoomLemmas
-- words that are computed
mod Examples
