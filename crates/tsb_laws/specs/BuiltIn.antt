-- Plans as version 1 of plan texts gives them, value by value; and the built-in plans of two and of eight phases with 8
-- phases and 2 sides.
use Rattle.std.specs.Prelude.{ℕ, List, [], ◌∷◌, map}
use Rattle.tsb_step.specs.tsb_plan.declared.object.Object.{Object}
use Rattle.tsb_step.specs.tsb_plan.declared.object.Object.TheVariants.{OverlapIncludedPhases, PatternCycleTime, PatternOffsetTime, PatternSplitNumber, PatternSequenceNumber, SequenceData, PreemptMinimumDuration, PreemptMinimumGreen, PreemptMinimumWalk, PreemptEnterPedClear, PreemptDwellPhase, UnitRedRevert}
use Rattle.tsb_step.specs.tsb_plan.declared.version.Version.TheVariants.{One}
use Rattle.tsb_step.specs.tsb_plan.Plan.{Plan, narrow_counts, with_values}
use Rattle.tsb_step.specs.tsb_plan.Quad.{with_rows, quad_rows}
use Rattle.tsb_step.specs.tsb_plan.Two.{two_values}
use Rattle.tsb_step.specs.tsb_plan.Versions.{translated}
use Rattle.tsb_laws.specs.Widened.{IsOfTable}

-- no object is given
abbrev pub narrow_empty : Plan
narrow_empty = record { phase_count = 8; side_count = 2; counts = narrow_counts; value = λ o i. 0 }

-- each is an object, an index and a value of version 1
abbrev pub AreValues : List (Object × ℕ × ℕ) → Type 0
AreValues [] = Unit {0}
AreValues (e ∷ es) = IsOfTable (record { object = e.0; index = e.1 }) e.2 × AreValues es

-- the value at the translated index
abbrev pub widened_put : Object × ℕ × ℕ → Object × ℕ × ℕ
widened_put e = (e.0, translated One e.0 e.1, e.2)

-- the same objects and values, in the same order
abbrev pub widened_puts : List (Object × ℕ × ℕ) → List (Object × ℕ × ℕ)
widened_puts es = map widened_put es

-- ## The built-in plans

-- its sequence has places 1 and 2, in both versions
unfoldable pub narrow_two : Plan
narrow_two = with_values narrow_empty two_values

-- the places of ring 2 begin at 9, and all else is where version 2 has it
abbrev pub narrow_quad_values : List (Object × ℕ × ℕ)
narrow_quad_values =
    (SequenceData, 9, 5) ∷ (SequenceData, 10, 6) ∷ (SequenceData, 11, 7) ∷ (SequenceData, 12, 8) ∷
    (OverlapIncludedPhases, 1, 3) ∷
    (UnitRedRevert, 1, 20) ∷
    (PatternCycleTime, 1, 80) ∷ (PatternSplitNumber, 1, 1) ∷ (PatternSequenceNumber, 1, 1) ∷
    (PatternCycleTime, 2, 80) ∷ (PatternOffsetTime, 2, 79) ∷ (PatternSplitNumber, 2, 1) ∷ (PatternSequenceNumber, 2, 1) ∷
    (PreemptDwellPhase, 1, 132) ∷ (PreemptMinimumGreen, 1, 2) ∷ (PreemptMinimumWalk, 1, 2) ∷ (PreemptEnterPedClear, 1, 3) ∷
    (PreemptMinimumDuration, 1, 10) ∷
    (PreemptDwellPhase, 2, 72) ∷ (PreemptMinimumGreen, 2, 2) ∷ (PreemptMinimumWalk, 2, 2) ∷ (PreemptEnterPedClear, 2, 3) ∷ []

-- the plan of eight phases, as version 1 has it
unfoldable pub narrow_quad : Plan
narrow_quad = with_values (with_rows narrow_empty quad_rows) narrow_quad_values
