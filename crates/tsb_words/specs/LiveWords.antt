-- What the words of `tsb_live` ask for, by the text of each.
use Rattle.std.specs.Prelude.{ℕ, Bool, true, false, if◌then◌else◌, is_some, List, [], ◌∷◌, drop, Option, Some, None, Result, codes, bytes_eq}
use Rattle.tsb_words.specs.declared.live.Asked.{Asked}
use Rattle.tsb_words.specs.declared.error.WordsError.{WordsError}
use Rattle.tsb_words.specs.BenchWords.{is_flag}
use Rattle.tsb_words.specs.Words.{SpelledBy}

-- what words may ask for: a live run of the plan in this file, strict or not
pub record Wish : Type 0 where
  pub plan : List ℕ
  pub is_strict : Bool

-- the words after `--` name the plan, where none was named before; there are no others
abbrev pub named_last : Bool → Option (List ℕ) → List (List ℕ) → Option Wish
named_last is_strict (Some plan) [] = Some (record { plan = plan; is_strict = is_strict })
named_last is_strict None (plan ∷ []) = Some (record { plan = plan; is_strict = is_strict })
named_last is_strict plan words = None

-- what these words ask for, where those before them have the flag or not, and name this plan or none. The first word `--`
-- is passed over. Before it stand the flag, once, and the plan, in any order; all other flags are bad words.
abbrev pub wish_after : Bool → Option (List ℕ) → List (List ℕ) → Option Wish
wish_after is_strict plan [] = named_last is_strict plan []
wish_after is_strict plan (word ∷ rest) =
    if bytes_eq word (codes "--") then named_last is_strict plan rest
    else (if bytes_eq word (codes "--strict") then (if is_strict then None else wish_after true plan rest)
    else (if is_flag word then None
    else (if is_some plan then None else wish_after is_strict (Some word) rest)))

-- what the words after the program's name ask for, if they are words of the program
abbrev pub wish_of : List (List ℕ) → Option Wish
wish_of words = wish_after false None words

-- what was answered, by the text of the plan's name
abbrev pub seen : Asked → Wish
seen asked = record { plan = asked.plan.now; is_strict = asked.is_strict }

-- words, of which the first is the program's name, give this answer
abbrev pub Spells : List (List ℕ) → Result Asked WordsError → Type 0
Spells words answer = SpelledBy seen (wish_of (drop 1 words)) answer
