-- The card that a text is: a pair a line.
use Rattle.std.specs.Prelude.{◌≡◌, ℕ, ◌+◌, ◌==◌, nat_le, nat_lt, Bool, false, ◌&&◌, ◌||◌, if◌then◌else◌, List, [], ◌∷◌, length, Option, Some, None, option_map, option_and_then, Result, Ok, Err}
use Rattle.tsb_lines.specs.Lines.{is_skipped, lines_of}
use Rattle.tsb_lines.specs.Words.{number_of}
use Rattle.tsb_card.specs.declared.card.Card.{Card}
use Rattle.tsb_card.specs.declared.read.CardFault.{CardFault}
use Rattle.tsb_card.specs.declared.read.CardFault.TheVariants.{Malformed, TooLarge}
use Rattle.tsb_card.specs.Card.{permits}
use Rattle.tsb_card.specs.Pairs.{is_listed}

-- ## A line

-- b before the first of two parts
abbrev pub onto_front : ℕ → List ℕ × List ℕ → List ℕ × List ℕ
onto_front b parts = (b ∷ parts.0, parts.1)

-- what comes before the first hyphen of a line, and what after it
abbrev pub parts_of : List ℕ → Option (List ℕ × List ℕ)
parts_of [] = None
parts_of (b ∷ bs) = if b == 45 then Some ([], bs) else option_map (onto_front b) (parts_of bs)

-- two channels, 1 to 16, the lower one first
abbrev pub pair_at : Option ℕ → Option ℕ → Option (ℕ × ℕ)
pair_at (Some a) (Some b) = if is_listed a b then Some (a, b) else None
pair_at a b = None

-- the pair that two numbers name
abbrev pub pair_with : List ℕ × List ℕ → Option (ℕ × ℕ)
pair_with parts = pair_at (number_of parts.0) (number_of parts.1)

-- the pair of a line
abbrev pub pair_of : List ℕ → Option (ℕ × ℕ)
pair_of line = option_and_then pair_with (parts_of line)

-- ## A text

-- line n gives this pair, and the rest those; or it is no pair
abbrev pub with_pair : ℕ → Option (ℕ × ℕ) → Result (List (ℕ × ℕ)) CardFault → Result (List (ℕ × ℕ)) CardFault
with_pair n None rest = Err (Malformed n)
with_pair n (Some pair) (Ok pairs) = Ok (pair ∷ pairs)
with_pair n (Some pair) (Err e) = Err e

-- the pairs of these lines, which begin with line n, or the first that is neither a pair nor skipped
unfoldable pub pairs_from : ℕ → List (List ℕ) → Result (List (ℕ × ℕ)) CardFault
pairs_from n [] = Ok []
pairs_from n (line ∷ lines) =
    if is_skipped line then pairs_from (n + 1) lines else with_pair n (pair_of line) (pairs_from (n + 1) lines)

-- the pairs of a text: at most 64 KiB of it, and lines count from 1
abbrev pub pairs_of : List ℕ → Result (List (ℕ × ℕ)) CardFault
pairs_of text = if nat_lt 65536 (length text) then Err TooLarge else pairs_from 1 (lines_of text)

-- two channels are one of these pairs
abbrev pub has_pair : List (ℕ × ℕ) → ℕ → ℕ → Bool
has_pair [] a b = false
has_pair (pair ∷ pairs) a b = (a == pair.0 && b == pair.1) || has_pair pairs a b

-- what a reader returned is what reading gives: exactly those pairs are permissive
abbrev pub Gives : Result Card CardFault → Result (List (ℕ × ℕ)) CardFault → Type 0
Gives (Ok card) read = (pairs : List (ℕ × ℕ)) × (read ≡ Ok pairs) × ((a b : ℕ) → permits card a b ≡ has_pair pairs a b)
Gives (Err e) read = read ≡ Err e

-- what these lines give with a card before them, where lines give this alone
pub record Reads (card : Card) (read whole : Result (List (ℕ × ℕ)) CardFault) : Type 0 where
  pub pairs : (ps : List (ℕ × ℕ)) → read ≡ Ok ps →
      (all : List (ℕ × ℕ)) × (whole ≡ Ok all) × ((a b : ℕ) → has_pair all a b ≡ (permits card a b || has_pair ps a b))
  pub fault : (e : CardFault) → read ≡ Err e → whole ≡ Err e

-- whatever lines follow, line n and they give the same after the old card as they alone after the new one
abbrev pub Stepped : Result Card CardFault → Card → ℕ → List ℕ → Type 0
Stepped (Ok new) old n line =
    (lines : List (List ℕ)) (whole : Result (List (ℕ × ℕ)) CardFault) → Reads old (pairs_from n (line ∷ lines)) whole → Reads new (pairs_from (n + 1) lines) whole
Stepped (Err e) old n line = (lines : List (List ℕ)) → pairs_from n (line ∷ lines) ≡ Err e
