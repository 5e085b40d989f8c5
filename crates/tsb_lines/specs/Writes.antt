-- What a writer has taken of a text.
use Rattle.std.specs.Prelude.{◌≡◌, ℕ, List, ◌++◌, Option}
use Rattle.std.specs.Io.KnownBytes.{Appends}

-- a writer has taken this text, or where it failed the first bytes of it
abbrev pub AppendsFront : Option (List ℕ) → Option (List ℕ) → List ℕ → Type 0
AppendsFront old new text = (gone : List ℕ) × (rest : List ℕ) × Appends old new gone × (text ≡ gone ++ rest)
