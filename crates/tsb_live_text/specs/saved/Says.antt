-- The contracts of calls that say a text.
use Rattle.std.specs.Prelude.{◌≡◌, ℕ, List, ◌++◌, Bool, ◌&&◌, ◌==◌, not, nat_le, Option, Result, Ok, Err}
use Rattle.std.specs.List.{list_all}
use Rattle.tsb_dialog.specs.Said.{Said, Wrote, with_feed}
use Rattle.tsb_lines.specs.declared.writes.WriteError.{WriteError}

-- a text was said; or a fault came within it
abbrev pub SaysText : Result (Unit {0}) WriteError → List ℕ → Option (List ℕ) → Option (List ℕ) → List ℕ → List ℕ → Type 0
SaysText (Ok u) text old new waited waits = Said old new waited waits text
SaysText (Err e) text old new waited waits = Wrote old new waited waits (λ said. (rest : List ℕ) × (text ≡ said ++ rest))

-- a line was said, with its end; or a fault came within it
abbrev pub SaysLine : Result (Unit {0}) WriteError → List ℕ → Option (List ℕ) → Option (List ℕ) → List ℕ → List ℕ → Type 0
SaysLine result line old new waited waits = SaysText result (with_feed line) old new waited waits

-- a byte of printable ASCII that needs no escape in a string of JSON
abbrev pub is_plain : ℕ → Bool
is_plain b = nat_le 32 b && nat_le b 126 && not (b == 34) && not (b == 92)

-- all of these are
abbrev pub are_plain : List ℕ → Bool
are_plain bytes = list_all is_plain bytes
