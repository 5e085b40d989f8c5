-- Mistakes in where a pattern waits, each with an example that tells it from the definition.
use Rattle.std.specs.Prelude.{◌≡◌, ℕ, ◌-◌, [], ◌∷◌, Option, Some, None, map, refl}
use Rattle.tsb_types.specs.Lists.{run_from}
use Rattle.tsb_plan.specs.declared.object.Object.TheVariants.{PhaseRing, SequenceData, PatternLeadLag}
use Rattle.tsb_plan.specs.Parts.{cycle}
use Rattle.tsb_plan.specs.Plan.{Plan, with_values}
use Rattle.tsb_plan.specs.Quad.{quad}
use Rattle.tsb_rules.specs.PatternRules.{split_sum, side_sum, split_end}
use Rattle.tsb_objects.specs.Instants.{first_coordinated, reference, force_off, instant_of, tick_before, waiting_point}

-- ## At the instant itself, where the coordinated phase is forced off: 760 in the built-in patterns of 800 ticks

abbrev pub at_the_instant : Plan → ℕ → Option ℕ
at_the_instant plan n = instant_of plan n (reference plan n)

waits_before : map (waiting_point quad) (1 ∷ 2 ∷ []) ≡ 759 ∷ 759 ∷ []
unfolding quad run_from split_sum side_sum split_end force_off
waits_before = refl

would_wait_at : map (at_the_instant quad) (1 ∷ 2 ∷ []) ≡ Some 760 ∷ Some 760 ∷ []
unfolding quad run_from split_sum side_sum split_end force_off
would_wait_at = refl

-- ## By the first coordinated phase: 2, where the plan leads and lags, and its rings are changed over

unfoldable pub led : Plan
led = with_values quad (
    (PhaseRing, 1, 2) ∷ (PhaseRing, 2, 2) ∷ (PhaseRing, 3, 2) ∷ (PhaseRing, 4, 2) ∷
    (PhaseRing, 5, 1) ∷ (PhaseRing, 6, 1) ∷ (PhaseRing, 7, 1) ∷ (PhaseRing, 8, 1) ∷
    (SequenceData, 1, 5) ∷ (SequenceData, 2, 6) ∷ (SequenceData, 3, 7) ∷ (SequenceData, 4, 8) ∷
    (SequenceData, 17, 2) ∷ (SequenceData, 18, 1) ∷ (SequenceData, 19, 3) ∷ (SequenceData, 20, 4) ∷
    (PatternLeadLag, 1, 1) ∷ (PatternLeadLag, 2, 1) ∷ [])

abbrev pub by_the_first : Plan → ℕ → ℕ
by_the_first plan n = tick_before (cycle plan n) (instant_of plan n (first_coordinated plan n))

-- phase 6 of ring 1 has its instant at 760
waits_for_ring_1 : waiting_point led 1 ≡ 759
unfolding led quad run_from split_sum side_sum split_end force_off
waits_for_ring_1 = refl

-- phase 2 of ring 2 has it at 610
would_wait_for_ring_2 : by_the_first led 1 ≡ 609
unfolding led quad run_from split_sum side_sum split_end force_off
would_wait_for_ring_2 = refl

-- ## One less, and not a tick before in the cycle: before an instant at 0 comes the last tick of the cycle

abbrev pub less_one : Option ℕ → ℕ
less_one None = 0
less_one (Some i) = i - 1

is_the_last : tick_before 800 (Some 0) ≡ 799
is_the_last = refl

would_be_the_first : less_one (Some 0) ≡ 0
would_be_the_first = refl
