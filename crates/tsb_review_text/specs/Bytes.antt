-- A line piece by piece, which clauses of private functions speak of.
use Rattle.std.specs.Prelude.{ℕ, List, [], ◌∷◌, ◌++◌}

-- what is written of each of a list, and what ends it
abbrev pub ended : (ℕ → List ℕ) → List ℕ → List ℕ → List ℕ
ended written end [] = end
ended written end (x ∷ xs) = written x ++ ended written end xs
