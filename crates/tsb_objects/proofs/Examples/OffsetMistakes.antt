-- What offsets are counted to, in a plan that leads and lags. Each mistake has an example in which its number is another.
use Rattle.std.specs.Prelude.{◌≡◌, ℕ, ◌+◌, [], ◌∷◌, List, Option, Some, None, map, refl}
use Rattle.tsb_types.specs.Lists.{run_from}
use Rattle.tsb_plan.specs.declared.object.Object.TheVariants.{CoordReference}
use Rattle.tsb_plan.specs.Parts.{cycle, offset, offset_reference}
use Rattle.tsb_plan.specs.Plan.{Plan, with_value}
use Rattle.tsb_plan.specs.Quad.{quad}
use Rattle.tsb_rules.specs.PatternRules.{split_sum, side_sum, split_end}
use Rattle.tsb_objects.specs.declared.offsets.SplitMoment.TheVariants.{GreenBegin}
use Rattle.tsb_objects.specs.Instants.{residue_of_difference, reference, end_within, moment_in_ring, counted_to, offset_from, offset_in_effect}
use Rattle.tsb_objects.proofs.Examples.WaitingMistakes.{led}

-- Phase 2 of ring 2 has its split from 0 to 250, phase 6 of ring 1 from 150 to 400, which is local 0; each has 30 of
-- yellow change and 10 of red clearance. The offset of pattern 2 is 790, in a cycle of 800.

abbrev pub counting : ℕ → Plan
counting r = with_value led CoordReference 1 r

-- with each value of coordReference
abbrev pub each : (Plan → ℕ) → List ℕ
each of = map (λ r. of (counting r)) (0 ∷ 1 ∷ 2 ∷ 3 ∷ 4 ∷ 5 ∷ [])

are_moments : map (λ r. counted_to (offset_reference (counting r)) (counting r) 2) (0 ∷ 1 ∷ 2 ∷ 3 ∷ 4 ∷ 5 ∷ [])
    ≡ None ∷ Some 0 ∷ Some 150 ∷ Some 210 ∷ Some 360 ∷ Some 240 ∷ []
unfolding led quad run_from split_sum side_sum split_end
are_moments = refl

are_in_effect : each (λ plan. offset_in_effect plan 2) ≡ 790 ∷ 390 ∷ 240 ∷ 180 ∷ 30 ∷ 150 ∷ []
unfolding led quad run_from split_sum side_sum split_end
are_in_effect = refl

-- ## Local 0 comes before the moment, and not after it

abbrev pub turned_round : Plan → ℕ → Option ℕ → Option ℕ → ℕ
turned_round plan n None end = offset plan n
turned_round plan n (Some moment) None = offset plan n
turned_round plan n (Some moment) (Some end) = residue_of_difference (cycle plan n) (offset plan n + moment) end

-- the begin of the first yellow is 190 before local 0
would_be_before : turned_round (counting 3) 2 (counted_to (offset_reference (counting 3)) (counting 3) 2)
    (end_within (counting 3) 2 (reference (counting 3) 2)) ≡ 600
unfolding led quad run_from split_sum side_sum split_end
would_be_before = refl

-- ## The first green is that of ring 1

abbrev pub of_ring_1 : Plan → ℕ → Option ℕ
of_ring_1 plan n = moment_in_ring GreenBegin plan n 1

would_be_the_last : offset_from (counting 1) 2 (of_ring_1 (counting 1) 2) (end_within (counting 1) 2 (reference (counting 1) 2)) ≡ 240
unfolding led quad run_from split_sum side_sum split_end
would_be_the_last = refl
