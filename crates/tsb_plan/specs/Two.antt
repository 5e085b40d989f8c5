-- The built-in plan of two phases, 2 on side 1 and 4 on side 2 of one ring, both on maximum recall.
use Rattle.std.specs.Prelude.{ℕ, Bool, ◌&&◌, nat_le, List, [], ◌∷◌}
use Rattle.tsb_plan.specs.declared.object.Object.{Object}
use Rattle.tsb_plan.specs.declared.object.Object.TheVariants.{PhaseEnabled, PhaseMaxRecall, PhaseRing, PhaseSide, PhaseMinimumGreen, PhaseMaximum1, PhaseMaximum2, PhaseYellowChange, PhaseRedClear, SequenceData}
use Rattle.tsb_plan.specs.Objects.{has_index, greatest}
use Rattle.tsb_plan.specs.Plan.{Plan, empty, with_values}

-- a value that an object takes at an index that it has
abbrev pub fits : Object × ℕ × ℕ → Bool
fits e = has_index e.0 e.1 && nat_le e.2 (greatest e.0)

-- what the plan gives, other than 0: an object, an index and a value each, in the object's own unit
abbrev pub two_values : List (Object × ℕ × ℕ)
two_values =
    (PhaseEnabled, 2, 1) ∷ (PhaseEnabled, 4, 1) ∷
    (PhaseRing, 2, 1) ∷ (PhaseRing, 4, 1) ∷
    (PhaseSide, 2, 1) ∷ (PhaseSide, 4, 2) ∷
    (PhaseMinimumGreen, 2, 5) ∷ (PhaseMinimumGreen, 4, 5) ∷
    (PhaseMaximum1, 2, 10) ∷ (PhaseMaximum1, 4, 8) ∷
    (PhaseMaximum2, 2, 10) ∷ (PhaseMaximum2, 4, 8) ∷
    (PhaseYellowChange, 2, 30) ∷ (PhaseYellowChange, 4, 30) ∷
    (PhaseRedClear, 2, 10) ∷ (PhaseRedClear, 4, 10) ∷
    (PhaseMaxRecall, 2, 1) ∷ (PhaseMaxRecall, 4, 1) ∷
    (SequenceData, 1, 2) ∷ (SequenceData, 2, 4) ∷ []

-- the plan of zeros with these values put in
unfoldable pub two : Plan
two = with_values empty two_values
