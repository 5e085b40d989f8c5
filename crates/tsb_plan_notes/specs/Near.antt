-- THE OBJECT THAT WAS PERHAPS MEANT by a name that none has: one whose name differs from it in one place alone, by few
-- letters.
use Rattle.std.specs.Prelude.{ℕ, ◌==◌, Bool, if◌then◌else◌, List, [], ◌∷◌, drop, Option, Some, None, bytes_eq, find}
use Rattle.tsb_plan.specs.declared.object.Object.{Object}
use Rattle.tsb_plan.specs.Names.{name_of}
use Rattle.tsb_plan.specs.Objects.{objects}
use Rattle.tsb_plan_notes.specs.declared.near.TheConstants.{DIFFERENCES}

-- two texts go on alike behind so many letters of the one and of the other
abbrev pub meets : ℕ × ℕ → List ℕ → List ℕ → Bool
meets difference left other = bytes_eq (drop difference.0 left) (drop difference.1 other)

-- a word differs by this from a right one, the first of the two, past the letters with which both begin
abbrev pub differs_by : ℕ × ℕ → List ℕ → List ℕ → Bool
differs_by difference [] word = meets difference [] word
differs_by difference (x ∷ xs) [] = meets difference (x ∷ xs) []
differs_by difference (x ∷ xs) (y ∷ ys) = if x == y then differs_by difference xs ys else meets difference (x ∷ xs) (y ∷ ys)

-- the first object whose name differs by this from a name
abbrev pub near_by : ℕ × ℕ → List ℕ → Option Object
near_by difference name = find (λ o. differs_by difference (name_of o) name) objects

-- the first of two objects, or else what the rest has
abbrev pub or_else : Option Object → Option Object → Option Object
or_else (Some o) other = Some o
or_else None other = other

-- by the first of these differences by which there is one
abbrev pub near_among : List (ℕ × ℕ) → List ℕ → Option Object
near_among [] name = None
near_among (difference ∷ rest) name = or_else (near_by difference name) (near_among rest name)

-- the object that was perhaps meant by a name: with the least difference, and of several the first
unfoldable pub near_object : List ℕ → Option Object
near_object name = near_among DIFFERENCES name
