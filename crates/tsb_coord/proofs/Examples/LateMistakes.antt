-- One-line mistakes in late force-off, each with an example that tells it from the definition.
use Rattle.std.specs.Prelude.{◌≡◌, ℕ, nat_le, nat_lt, Bool, true, false, not, ◌&&◌, ◌||◌, if◌then◌else◌, [], ◌∷◌, Option, Some, None, refl}
use Rattle.tsb_objects.specs.tsb_types.Lists.{run_from}
use Rattle.tsb_objects.specs.tsb_plan.declared.object.Object.TheVariants.{CoordForceMode, SplitCoordPhase}
use Rattle.tsb_objects.specs.tsb_plan.Parts.{cycle, forces_late}
use Rattle.tsb_objects.specs.tsb_plan.Plan.{Plan, with_values}
use Rattle.tsb_objects.specs.tsb_plan.Running.{is_coordinated_now}
use Rattle.tsb_objects.specs.tsb_plan.Quad.{quad}
use Rattle.tsb_objects.specs.tsb_rules.PatternRules.{split_sum, side_sum, split_end}
use Rattle.tsb_coord.specs.Coordinated.{reference, force_off, agree, yields_to, instant_of, late_end, is_late, asks_force_off}
use Rattle.tsb_coord.proofs.Examples.LateExamples.{late, short_late, apart}

-- p is forced off at local counter m of pattern 1 by a late end
abbrev pub forced_by : Plan → Option ℕ → ℕ → ℕ → Bool
forced_by plan to m p = agree (Some m) (force_off plan (Some 1) p) || is_late (cycle plan 1) (Some m) (force_off plan (Some 1) p) to

-- ## The mode is not read

abbrev pub late_in_both_modes : Plan → ℕ → ℕ → Option ℕ
late_in_both_modes plan n p = if not (is_coordinated_now plan (Some n) p) then instant_of plan n (yields_to plan n p) else None

not_in_mode_0 : asks_force_off quad 600 (Some 1) 1 ≡ false
unfolding quad run_from split_sum side_sum split_end force_off
not_in_mode_0 = refl

would_be_late_in_mode_0 : forced_by quad (late_in_both_modes quad 1 1) 600 1 ≡ true
unfolding quad run_from split_sum side_sum split_end force_off
would_be_late_in_mode_0 = refl

-- ## The instant of the coordinated phase is counted in: phase 1 is forced off at 760 as well

abbrev pub is_late_to : Option ℕ → Option ℕ → Option ℕ → Bool
is_late_to None from to = false
is_late_to (Some m) None to = false
is_late_to (Some m) (Some i) None = false
is_late_to (Some m) (Some i) (Some e) = nat_le i m && nat_le m e

ends : asks_force_off late 760 (Some 1) 1 ≡ false
unfolding late quad run_from split_sum side_sum split_end force_off
ends = refl

would_go_on : is_late_to (Some 760) (force_off late (Some 1) 1) (late_end late (Some 1) 1) ≡ true
unfolding late quad run_from split_sum side_sum split_end force_off
would_go_on = refl

-- ## Ticks are counted within one cycle: phase 3, with an instant of 390 and an end of 360, is never late

abbrev pub is_late_within : ℕ → ℕ → ℕ → Bool
is_late_within m i e = nat_le i m && nat_lt m e

past_zero : asks_force_off short_late 391 (Some 1) 3 ∷ asks_force_off short_late 400 (Some 1) 3 ∷ [] ≡ true ∷ true ∷ []
unfolding short_late quad run_from split_sum side_sum split_end force_off
past_zero = refl

would_be_lost : is_late_within 391 390 360 ∷ is_late_within 0 390 360 ∷ [] ≡ false ∷ false ∷ []
would_be_lost = refl

-- ## A phase yields to the first coordinated phase of the pattern, whatever its ring: phase 5 at 755, behind 750

abbrev pub late_to_the_first : Plan → ℕ → ℕ → Option ℕ
late_to_the_first plan n p =
    if forces_late plan && not (is_coordinated_now plan (Some n) p) then instant_of plan n (reference plan n) else None

its_ring_is_over : asks_force_off apart 755 (Some 1) 5 ≡ false
unfolding apart quad run_from split_sum side_sum split_end force_off
its_ring_is_over = refl

would_last_longer : forced_by apart (late_to_the_first apart 1 5) 755 5 ≡ true
unfolding apart quad run_from split_sum side_sum split_end force_off
would_last_longer = refl

-- ## A coordinated phase is forced off late as well. In a plan that breaks no rule a coordinated phase yields to
-- itself, and no tick is late; here rule K20 is broken, as 1 and 2 of one ring are coordinated, with instants 760 and
-- 210

unfoldable pub two_of_a_ring : Plan
two_of_a_ring = with_values quad ((CoordForceMode, 1, 1) ∷ (SplitCoordPhase, 1, 1) ∷ [])

abbrev pub late_for_all : Plan → ℕ → ℕ → Option ℕ
late_for_all plan n p = if forces_late plan then instant_of plan n (yields_to plan n p) else None

not_late : asks_force_off two_of_a_ring 600 (Some 1) 2 ≡ false
unfolding two_of_a_ring quad run_from split_sum side_sum split_end force_off
not_late = refl

would_be_late : forced_by two_of_a_ring (late_for_all two_of_a_ring 1 2) 600 2 ≡ true
unfolding two_of_a_ring quad run_from split_sum side_sum split_end force_off
would_be_late = refl
