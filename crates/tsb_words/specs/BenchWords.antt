-- What the words of `tsb` ask for, by the text of each.
use Rattle.std.specs.Prelude.{ℕ, ◌==◌, ◌&&◌, Bool, true, false, if◌then◌else◌, List, [], ◌∷◌, drop, Option, Some, None, option_map, Result, codes, chars, bytes_eq}
use Rattle.tsb_words.specs.declared.bench.Asked.{Asked}
use Rattle.tsb_words.specs.declared.bench.Asked.TheVariants as asks
use Rattle.tsb_words.specs.declared.error.WordsError.{WordsError}
use Rattle.tsb_words.specs.Words.{SpelledBy}

-- what words may ask for: to check the plan in this file, to run the plan and the log in these, or the built-in plan
pub data Wish : Type 0 where
  check : List ℕ → Wish
  run : List ℕ → List ℕ → Wish
  built_in : Wish

-- it is not empty
abbrev pub has_some : List ℕ → Bool
has_some [] = false
has_some (x ∷ xs) = true

-- after a first hyphen stands a character: the word is a flag, of which the program has none
abbrev pub is_flag : List ℕ → Bool
is_flag [] = false
is_flag (x ∷ rest) = x == 45 && has_some (chars rest)

-- the files that words name. The first word `--` is passed over; after it each word is a file, also one like a flag.
abbrev pub files : List (List ℕ) → Option (List (List ℕ))
files [] = Some []
files (word ∷ rest) =
    if bytes_eq word (codes "--") then Some rest
    else (if is_flag word then None else option_map (λ (names : List (List ℕ)). word ∷ names) (files rest))

-- `check` names one file
abbrev pub check_of : Option (List (List ℕ)) → Option Wish
check_of (Some (plan ∷ [])) = Some (check plan)
check_of other = None

-- `run` names two
abbrev pub run_of : Option (List (List ℕ)) → Option Wish
run_of (Some (plan ∷ log ∷ [])) = Some (run plan log)
run_of other = None

-- the built-in plan is asked for by no word
abbrev pub built_in_of : List (List ℕ) → Option Wish
built_in_of [] = Some built_in
built_in_of (word ∷ rest) = None

-- what the words after the program's name ask for, if they are words of the program
abbrev pub wish_of : List (List ℕ) → Option Wish
wish_of [] = Some built_in
wish_of (word ∷ rest) =
    if bytes_eq (codes "check") word then check_of (files rest)
    else (if bytes_eq (codes "run") word then run_of (files rest)
    else (if bytes_eq word (codes "--") then built_in_of rest else None))

-- what was answered, by the text of the files
abbrev pub seen : Asked → Wish
seen (asks.Check plan) = check plan.now
seen (asks.Run plan log) = run plan.now log.now
seen asks.BuiltIn = built_in

-- words, of which the first is the program's name, give this answer
abbrev pub Spells : List (List ℕ) → Result Asked WordsError → Type 0
Spells words answer = SpelledBy seen (wish_of (drop 1 words)) answer
