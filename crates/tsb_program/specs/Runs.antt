-- What the programs say of bad words, and what a run does after a fault.
use Rattle.std.specs.Prelude.{◌≡◌, ℕ, Bool, true, false, List, Option, Some, None}
use Rattle.tsb_lines.specs.Seen.{Seen, Tells}
use Rattle.tsb_text.specs.declared.faults.OnFault.{OnFault}
use Rattle.tsb_text.specs.declared.faults.OnFault.TheVariants.{GoOn, Stop}
use Rattle.tsb_words.specs.Near.{hint}
use Rattle.tsb_words.specs.declared.error.WordsError.{WordsError}
use Rattle.tsb_words.specs.declared.error.WordsError.TheVariants as words
use Rattle.tsb_program.specs.Failures.{Fails}
use Rattle.tsb_program.specs.declared.failure.Failure.TheVariants.{Memory}

-- what is said of bad words: the right word that was perhaps meant, or else this line
abbrev pub bad_line : Option (List ℕ) → List ℕ → List ℕ
bad_line (Some right) line = hint right
bad_line None line = line

-- bad words end with 2 and that line
abbrev pub TellsBad : Option (List ℕ) → List ℕ → ℕ → Seen → Seen → Type 0
TellsBad near line status told tells = (status ≡ 2) × Tells told tells (bad_line near line)

-- the same, where this right word is near; words may run out of memory
abbrev pub TellsWords : Option (List ℕ) → List ℕ → WordsError → ℕ → Seen → Seen → Type 0
TellsWords near line words.Memory status told tells = Fails Memory status told tells
TellsWords near line words.Bad status told tells = TellsBad near line status told tells

-- what a run does after a line with which something is wrong: a strict one ends
abbrev pub after_fault : Bool → OnFault
after_fault true = Stop
after_fault false = GoOn
