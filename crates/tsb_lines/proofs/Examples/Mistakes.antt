-- Mistakes in lines and words, each with an example that tells it from the definition.
use Rattle.std.specs.Prelude.{◌≡◌, ℕ, ◌==◌, List, [], ◌∷◌, if◌then◌else◌, codes, refl}
use Rattle.tsb_lines.specs.Laws.{joined}
use Rattle.tsb_lines.specs.Lines.{onto_first, split}
use Rattle.tsb_lines.specs.Words.{words_of}

-- ## A line feed at the end begins no line

abbrev pub split_without_last : List ℕ → List (List ℕ)
split_without_last [] = []
split_without_last (b ∷ bs) = if b == 10 then [] ∷ split_without_last bs else onto_first b (split_without_last bs)

is_whole : joined (split (codes "on\n")) ≡ codes "on\n"
is_whole = refl

would_lose_feed : joined (split_without_last (codes "on\n")) ≡ codes "on"
would_lose_feed = refl

-- ## A carriage return ends a line as a line feed does not: a line keeps the feed

abbrev pub split_at_returns : List ℕ → List (List ℕ)
split_at_returns [] = [] ∷ []
split_at_returns (b ∷ bs) = if b == 13 then [] ∷ split_at_returns bs else onto_first b (split_at_returns bs)

has_no_feed : split (codes "on\noff") ≡ codes "on" ∷ codes "off" ∷ []
has_no_feed = refl

would_have_feed : split_at_returns (codes "on\noff") ≡ codes "on\noff" ∷ []
would_have_feed = refl

-- ## Each space ends a word, also an empty one

abbrev pub words_at_spaces : List ℕ → List (List ℕ)
words_at_spaces [] = [] ∷ []
words_at_spaces (b ∷ bs) = if b == 32 then [] ∷ words_at_spaces bs else onto_first b (words_at_spaces bs)

are_two : words_of (codes " set  7") ≡ codes "set" ∷ codes "7" ∷ []
are_two = refl

would_be_empty : words_at_spaces (codes " set  7") ≡ [] ∷ codes "set" ∷ [] ∷ codes "7" ∷ []
would_be_empty = refl
