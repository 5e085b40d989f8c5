-- Lines of a text, which is a list of bytes.
use Rattle.std.specs.Prelude.{ℕ, ◌≡◌, ◌==◌, ◌||◌, List, [], ◌∷◌, if◌then◌else◌, take, true, false, Bool}

-- b before the first line
abbrev pub onto_first : ℕ → List (List ℕ) → List (List ℕ)
onto_first b [] = (b ∷ []) ∷ []
onto_first b (l ∷ ls) = (b ∷ l) ∷ ls

-- the parts before, between and after the line feeds: one more than the line feeds
abbrev pub split : List ℕ → List (List ℕ)
split [] = [] ∷ []
split (b ∷ bs) = if b == 10 then [] ∷ split bs else onto_first b (split bs)

-- none of it is a line feed
abbrev pub HasNoFeed : List ℕ → Type 0
HasNoFeed [] = Unit {0}
HasNoFeed (b ∷ bs) = (b ≡ 10 → ⊥) × HasNoFeed bs

-- without one carriage return at its end
abbrev pub without_return : List ℕ → List ℕ
without_return [] = []
without_return (b ∷ []) = if b == 13 then [] else b ∷ []
without_return (b ∷ c ∷ bs) = b ∷ without_return (c ∷ bs)

-- each but the last without one carriage return at its end
abbrev pub ended : List (List ℕ) → List (List ℕ)
ended [] = []
ended (l ∷ []) = l ∷ []
ended (l ∷ m ∷ ms) = without_return l ∷ ended (m ∷ ms)

-- the lines of a text: a line feed ends a line, and a carriage return before it is part of that end. The part after the
-- last line feed is the last line, as it is.
abbrev pub lines_of : List ℕ → List (List ℕ)
lines_of text = ended (split text)

-- what a reader keeps of a line until it ends: its first bytes, at most so many
abbrev pub kept : ℕ → List ℕ → List ℕ
kept most line = take most line

-- empty, or spaces alone
abbrev pub is_blank : List ℕ → Bool
is_blank [] = true
is_blank (b ∷ bs) = if b == 32 then is_blank bs else false

-- it begins with #
abbrev pub is_comment : List ℕ → Bool
is_comment [] = false
is_comment (b ∷ bs) = b == 35

-- what no reader heeds
abbrev pub is_skipped : List ℕ → Bool
is_skipped line = is_blank line || is_comment line
