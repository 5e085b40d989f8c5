-- The overlaps that have intervals of their own, as sets.
use Rattle.std.specs.Prelude.{◌≡◌, ℕ}
use Rattle.tsb_types.specs.declared.number_set.NumberSet.{NumberSet}
use Rattle.tsb_types.specs.Sets.{has_number}
use Rattle.tsb_plan.specs.Plan.{Plan}
use Rattle.tsb_plan.specs.Parts.{is_arrow, is_timed, trails}

-- a set has the overlaps of a plan that are arrows
abbrev pub AreArrows : Plan → NumberSet → Type 0
AreArrows plan found = (o : ℕ) → has_number found o ≡ is_arrow plan o

-- those that trail
abbrev pub AreTrailing : Plan → NumberSet → Type 0
AreTrailing plan found = (o : ℕ) → has_number found o ≡ trails plan o

-- those that are arrows or trail
abbrev pub AreTimed : Plan → NumberSet → Type 0
AreTimed plan found = (o : ℕ) → has_number found o ≡ is_timed plan o
