-- What words of a command line ask for, where a program takes them, and why they ask for nothing.
use Rattle.std.specs.Prelude.{◌≡◌, Option, Some, None, List, [], ◌∷◌, Result, Ok, Err}
use Rattle.std.specs.declared.io.ErrorKind.{ErrorKind as DeviceKind}
use Rattle.std.specs.declared.io.ErrorKind.TheVariants as device
use Rattle.clap.specs.Faults.{fault_of}
use Rattle.clap.specs.Kinds.{Kinds}
use Rattle.clap.specs.Matches.{found_of}
use Rattle.clap.specs.Simple.{App, matches_of, subcommand_of}
use Rattle.clap.specs.Walk.{Row, Text, rows_of}
use Rattle.clap.specs.declared.error.kind.ErrorKind.{ErrorKind}
use Rattle.clap.specs.declared.error.kind.ErrorKind.TheVariants as kinds
use Rattle.clap.specs.declared.parser.matches.ArgMatches.{ArgMatches}
use Rattle.tsb_words.specs.declared.error.WordsError.{WordsError}
use Rattle.tsb_words.specs.declared.error.WordsError.TheVariants.{Memory, Bad}

-- out of memory is told as such, and all else that `clap` answers as bad words, help among it
abbrev pub words_fault : ErrorKind → WordsError
words_fault kinds.OutOfMemory = Memory
words_fault kind = Bad

-- the same of the call that gives the words
abbrev pub given_fault : DeviceKind → WordsError
given_fault device.OutOfMemory = Memory
given_fault kind = Bad

-- bad words are those that ask for nothing, and memory may run out
abbrev pub IsRefused : {W : Type 0} → Option W → WordsError → Type 0
IsRefused wish Bad = wish ≡ None
IsRefused wish Memory = Unit {0}

-- the answer is this wish, by what is seen of an answer
abbrev pub SpelledBy : {W A : Type 0} → (A → W) → Option W → Result A WordsError → Type 0
SpelledBy seen wish (Ok asked) = wish ≡ Some (seen asked)
SpelledBy seen wish (Err fault) = IsRefused wish fault

-- what words meet, where they fail by none of these kinds
abbrev pub met_where : {M : Type 0} → Kinds → M → Option M
met_where [] met = Some met
met_where (kind ∷ kinds) met = None

-- the subcommand that words meet, if any, where `clap` takes them for this command
abbrev pub met_by : App → List Text → Option (Option (Text × List Row))
met_by app words = met_where (fault_of app words) (subcommand_of app words)

-- what words give to the command's own arguments, where `clap` takes them for this command
abbrev pub given_by : App → List Text → Option (List Row)
given_by app words = met_where (fault_of app words) (matches_of app words)

-- what was given to the command's own arguments
abbrev pub given_of : ArgMatches → List Row
given_of matches = rows_of (found_of matches)
