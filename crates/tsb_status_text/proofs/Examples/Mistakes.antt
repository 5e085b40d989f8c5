-- One-line mistakes, each with an example that tells it from the definition.
use Rattle.std.proofs.Common.{◌≡◌, ℕ, ◌∷◌, [], List, Option, Some, None, codes, decimal, refl}
use Rattle.tsb_status_text.specs.Json.{array, more, member, object, optional}

-- ## The first value of a list has a comma too

abbrev pub array_with_commas : List (List ℕ) → List ℕ
array_with_commas values = 91 ∷ more values 93

without : array (codes "1" ∷ codes "3" ∷ []) ≡ codes "[1,3]"
without = refl

with_comma : array_with_commas (codes "1" ∷ codes "3" ∷ []) ≡ codes "[,1,3]"
with_comma = refl

-- ## What is none is 0, so that a time that does not run is told as one that is over

abbrev pub optional_or_zero : Option ℕ → List ℕ
optional_or_zero None = codes "0"
optional_or_zero (Some n) = decimal n

is_null : object (member (codes "gap") (optional None) ∷ []) ≡ codes "{\"gap\":null}"
is_null = refl

is_zero : object (member (codes "gap") (optional_or_zero None) ∷ []) ≡ codes "{\"gap\":0}"
is_zero = refl
