-- The lines of a card, and of what a card has otherwise than it should. Pairs are in order: by their lower channel, then by
-- the higher one.
use Rattle.std.specs.Prelude.{◌≡◌, ℕ, ◌+◌, ◌-◌, Bool, true, not, ◌&&◌, if◌then◌else◌, List, [], ◌∷◌, ◌++◌, codes, decimal, flat_map, Result, OnErr, OnOk}
use Rattle.std.specs.List.{list_any}
use Rattle.std.specs.Io.KnownBytes.{Appends}
use Rattle.tsb_types.specs.Lists.{run_from}
use Rattle.tsb_lines.specs.Seen.{Seen}
use Rattle.tsb_lines.specs.Writes.{AppendsFront}
use Rattle.tsb_lines.specs.declared.writes.WriteError.{WriteError}

-- the line of a pair, as `2-6`, behind what is said of it
abbrev pub pair_line : List ℕ → ℕ → ℕ → List ℕ
pair_line before a b = before ++ (decimal a ++ (codes "-" ++ (decimal b ++ codes "\n")))

-- what is written of each pair with channel a as its lower one
unfoldable pub row_text : (ℕ → ℕ → List ℕ) → ℕ → List ℕ
row_text line a = flat_map (line a) (run_from (a + 1) (16 - a))

-- what is written of each pair
unfoldable pub pairs_text : (ℕ → ℕ → List ℕ) → List ℕ
pairs_text line = flat_map (row_text line) (run_from 1 16)

-- the line of a pair that is permissive
abbrev pub card_line : (ℕ → ℕ → Bool) → ℕ → ℕ → List ℕ
card_line has a b = if has a b then pair_line [] a b else []

-- the lines of a card
abbrev pub card_text : (ℕ → ℕ → Bool) → List ℕ
card_text has = pairs_text (card_line has)

-- a pair is permissive on one of two cards alone
abbrev pub is_otherwise : (wanted found : ℕ → ℕ → Bool) → ℕ → ℕ → Bool
is_otherwise wanted found a b = if wanted a b then not (found a b) else found a b

-- what is said of a pair that one of two cards alone has: found and not wanted, or wanted and not found
abbrev pub what_of : Bool → List ℕ
what_of is_found = if is_found then codes "too many " else codes "missing "

-- the line of a pair that is permissive on one of two cards alone
abbrev pub other_line : (wanted found : ℕ → ℕ → Bool) → ℕ → ℕ → List ℕ
other_line wanted found a b = if is_otherwise wanted found a b then pair_line (what_of (found a b)) a b else []

-- the lines of what a card has otherwise
abbrev pub others_text : (wanted found : ℕ → ℕ → Bool) → List ℕ
others_text wanted found = pairs_text (other_line wanted found)

-- some pair with channel a as its lower one passes a test
unfoldable pub some_in_row : (ℕ → ℕ → Bool) → ℕ → Bool
some_in_row test a = list_any (test a) (run_from (a + 1) (16 - a))

-- some pair passes a test
unfoldable pub some_pair : (ℕ → ℕ → Bool) → Bool
some_pair test = list_any (some_in_row test) (run_from 1 16)

-- a writer has taken this text, or the first bytes of it where a write has failed; else none has failed since
pub record Wrote (result : Result (Unit {0}) WriteError) (old new : Seen) (text : List ℕ) : Type 0 where
  pub whole : OnOk result (Appends old.bytes new.bytes text)
  pub front : AppendsFront old.bytes new.bytes text
  pub blame : OnErr result (new.failed ≡ true)
  pub well : OnOk result (new.failed ≡ old.failed)
