-- Patterns in which an advice says the same of a phase: A12 and A43 are told once of them, in the first.
use Rattle.std.specs.Prelude.{ℕ, ◌==◌, nat_lt, Bool, false, not, ◌&&◌}
use Rattle.std.specs.List.{list_any}
use Rattle.std.specs.Option.{option_eq}
use Rattle.tsb_types.specs.Lists.{run_from}
use Rattle.tsb_plan.specs.Parts.{permissive_time}
use Rattle.tsb_plan.specs.Plan.{Plan}
use Rattle.tsb_review.specs.declared.advice.Advice.{Advice}
use Rattle.tsb_review.specs.declared.advice.Advice.TheVariants.{A12, A43}
use Rattle.tsb_review.specs.declared.finding.Finding.{Finding}
use Rattle.tsb_review.specs.declared.place.Place.{Place}
use Rattle.tsb_review.specs.declared.place.Place.TheVariants as at
use Rattle.tsb_review.specs.Coordination.{yields_too_long}
use Rattle.tsb_review.specs.Pedestrians.{overruns_split}
use Rattle.tsb_review.specs.Splits.{green_of_split, left_short, longest_permissive}

-- walk and clearance of p are longer than the green of its split in pattern m too, and that is as long as in pattern n
abbrev pub overruns_alike : Plan → ℕ → ℕ → ℕ → Bool
overruns_alike plan n p m = overruns_split plan m p && green_of_split plan m p == green_of_split plan n p

-- the permissive time of pattern m is too long for p too, is that of pattern n, and leaves the same first phase short by
-- as much
abbrev pub is_permissive_alike : Plan → ℕ → ℕ → ℕ → Bool
is_permissive_alike plan n p m =
    yields_too_long plan m p && (permissive_time plan m == permissive_time plan n &&
    (option_eq (λ q r. q == r) (left_short plan m p) (left_short plan n p) && longest_permissive plan m p == longest_permissive plan n p))

-- the advice says the same of p in pattern m as in pattern n
abbrev pub is_alike : Plan → Advice → ℕ → ℕ → ℕ → Bool
is_alike plan A12 n p m = overruns_alike plan n p m
is_alike plan A43 n p m = is_permissive_alike plan n p m
is_alike plan a n p m = false

-- the advice says the same of p in a pattern before pattern n
abbrev pub is_told_before : Plan → Advice → ℕ → ℕ → Bool
is_told_before plan a n p = list_any (λ m. nat_lt m n && is_alike plan a n p m) (run_from 1 16)

-- A12: walk and clearance of p are longer than the green of its split in pattern n, the first in which this is so alike
abbrev pub overruns_first : Plan → ℕ → ℕ → Bool
overruns_first plan n p = overruns_split plan n p && not (is_told_before plan A12 n p)

-- A43: the permissive time of pattern n is too long for p, and pattern n is the first in which this is so alike
abbrev pub yields_first : Plan → ℕ → ℕ → Bool
yields_first plan n p = yields_too_long plan n p && not (is_told_before plan A43 n p)

-- the advice, given for a place, says the same of its phase in pattern m, a later one
abbrev pub is_also_at : Plan → Advice → Place → ℕ → Bool
is_also_at plan a (at.PatternPhase n p) m = nat_lt n m && is_alike plan a n p m
is_also_at plan a place m = false

-- a finding is also told of pattern m
abbrev pub is_also_in : Plan → Finding → ℕ → Bool
is_also_in plan f m = is_also_at plan f.advice f.place m
