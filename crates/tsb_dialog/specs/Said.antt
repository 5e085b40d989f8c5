-- Answers on their way out. They are put together before they are written, so a writer may lag behind what was said.
use Rattle.std.specs.Prelude.{◌≡◌, ℕ, List, [], ◌∷◌, ◌++◌, Option, Result, Ok, Err}
use Rattle.std.specs.Io.KnownBytes.{Appends}

-- a line with its end
abbrev pub with_feed : List ℕ → List ℕ
with_feed line = line ++ 10 ∷ []

-- a text was said: of what waited before, and the text after it, a prefix has gone to the writer, and the rest waits
pub record Said (old new : Option (List ℕ)) (waited waits text : List ℕ) : Type 0 where
  pub gone : List ℕ
  pub grown : Appends old new gone
  pub kept : waited ++ text ≡ gone ++ waits

-- a text of which this holds was said
pub record Wrote (old new : Option (List ℕ)) (waited waits : List ℕ) (P : List ℕ → Type 0) : Type 0 where
  pub text : List ℕ
  pub said : Said old new waited waits text
  pub so : P text

-- a first part of a text was said, after which a fault came
abbrev pub IsCutShort : Option (List ℕ) → Option (List ℕ) → List ℕ → List ℕ → List ℕ → Type 0
IsCutShort old new waited waits text = Wrote old new waited waits (λ said. (rest : List ℕ) × (text ≡ said ++ rest))

-- a text was said; or a fault came within it
abbrev pub SaidUntilFault : {T E : Type 0} → Result T E → Option (List ℕ) → Option (List ℕ) → List ℕ → List ℕ → List ℕ → Type 0
SaidUntilFault (Ok t) old new waited waits text = Said old new waited waits text
SaidUntilFault (Err e) old new waited waits text = IsCutShort old new waited waits text
