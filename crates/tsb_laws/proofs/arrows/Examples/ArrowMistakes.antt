-- What the laws of arrows and of trails refuse, and by computing what comes of it. There is one ring with phases 2 and 4, one
-- on each side, and both are recalled. Overlap 2 is an arrow whose turn is 4 and which 2 opposes. Overlap 3 goes with 2 and
-- trails: 20 ticks of green, 30 of yellow, 10 of red clearance. All inputs are off.
use Rattle.std.proofs.Common.{◌≡◌, ℕ, zero, suc, Bool, true, false, ◌&&◌, ◌||◌, if◌then◌else◌, List, [], ◌∷◌, None, refl}
use Rattle.std.specs.List.{list_any}
use Rattle.tsb_step.specs.tsb_types.declared.interval.Interval.{Interval}
use Rattle.tsb_step.specs.tsb_types.declared.interval.Interval.TheVariants as intervals
use Rattle.tsb_step.specs.tsb_types.declared.lamp.Aspect.{Aspect}
use Rattle.tsb_step.specs.tsb_types.declared.lamp.Aspect.TheVariants as aspects
use Rattle.tsb_step.specs.tsb_types.Intervals.{in_service, is_green, is_yellow}
use Rattle.tsb_step.specs.tsb_types.Lists.{is}
use Rattle.tsb_step.specs.tsb_types.Sets.{all_off}
use Rattle.tsb_step.specs.tsb_plan.declared.object.Object.{Object}
use Rattle.tsb_step.specs.tsb_plan.declared.object.Object.TheVariants.{OverlapIncludedPhases, OverlapModifierPhases, OverlapTrailGreen, OverlapTrailRed, OverlapTrailYellow, OverlapType, PhaseMaxRecall, PhaseMinRecall, PhaseMinimumGreen}
use Rattle.tsb_step.specs.tsb_plan.Parts.{is_included}
use Rattle.tsb_step.specs.tsb_plan.Plan.{Plan, phases, with_values}
use Rattle.tsb_step.specs.tsb_plan.Two.{two}
use Rattle.tsb_step.specs.tsb_rules.Rules.{first_broken}
use Rattle.tsb_step.specs.tsb_overlap.declared.parts.OverlapInterval.{OverlapInterval}
use Rattle.tsb_step.specs.tsb_overlap.declared.parts.OverlapInterval.TheVariants as overlaps
use Rattle.tsb_step.specs.tsb_ring.Rings.{Ring1}
use Rattle.tsb_step.specs.declared.inputs.Input.{Input}
use Rattle.tsb_step.specs.declared.inputs.Input.TheVariants.{Tick}
use Rattle.tsb_step.specs.State.{State, interval}
use Rattle.tsb_step.specs.Signs.{display}
use Rattle.tsb_step.specs.Step.{step, is_serving}
use Rattle.tsb_step.specs.Runs.{replay}
use Rattle.tsb_step.proofs.Examples.Scenes.{opened}
use Rattle.tsb_laws.specs.LitHeads.{is_lit}

abbrev pointed_values : List (Object × ℕ × ℕ)
pointed_values =
    (PhaseMaxRecall, 2, 0) ∷ (PhaseMaxRecall, 4, 0) ∷ (PhaseMinRecall, 2, 1) ∷ (PhaseMinRecall, 4, 1) ∷
    (PhaseMinimumGreen, 2, 2) ∷ (PhaseMinimumGreen, 4, 2) ∷
    (OverlapType, 2, 2) ∷ (OverlapIncludedPhases, 2, 2) ∷ (OverlapModifierPhases, 2, 8) ∷
    (OverlapIncludedPhases, 3, 2) ∷ (OverlapTrailGreen, 3, 2) ∷ (OverlapTrailYellow, 3, 30) ∷ (OverlapTrailRed, 3, 10) ∷ []

unfoldable pointed : Plan
pointed = with_values two pointed_values

breaks_none : first_broken pointed ≡ None
unfolding opened pointed two
breaks_none = refl

abbrev ticks : ℕ → List Input
ticks zero = []
ticks (suc n) = Tick all_off ∷ ticks n

-- the state after so many ticks
abbrev at : ℕ → State
at n = replay pointed (ticks n)

-- ## An arrow that is green as soon as the ring is committed to its turn

abbrev green_by_commitment : State → ℕ → Aspect
green_by_commitment s t = if is t (s.rings.commitment Ring1) then aspects.Green else aspects.Red

-- whether 2, which opposes it, is in service, what the arrow shows, and what the mistake would show
abbrev committed : State → Bool × Aspect × Aspect
committed s = (in_service (interval s 2), (display s).overlap 2, green_by_commitment s 4)

-- 2 is in its yellow then
is_not_green : committed (at 30) ≡ (true, aspects.Yellow, aspects.Green)
unfolding opened pointed two
is_not_green = refl

-- ## An arrow that flashes wherever its turn is Red

abbrev flashes_by_turn : State → ℕ → Aspect
flashes_by_turn s t = if in_service (interval s t) then aspects.Red else aspects.FlashingYellow

-- at power-up no phase is in service
none_serves : list_any (λ p. in_service (interval (at 0) p)) (phases pointed) ≡ false
unfolding opened pointed two
none_serves = refl

serves_none : is_serving (at 0) ≡ false
unfolding opened pointed two
serves_none = refl

is_unlit : is_lit ((display (at 0)).overlap 2) ≡ false
unfolding opened pointed two
is_unlit = refl

would_flash : is_lit (flashes_by_turn (at 0) 4) ≡ true
unfolding opened pointed two
would_flash = refl

-- ## An overlap that begins to trail with the red clearance of its phase

abbrev kept_through_yellow : State → ℕ → Bool
kept_through_yellow s o =
    list_any (λ p. is_included s.plan o p && (is_green (interval s p) || is_yellow (interval s p))) (phases s.plan)

-- the interval of 2 now and a tick later, and that of overlap 3 then
abbrev trails : State → Interval × Interval × OverlapInterval
trails s = (interval s 2, interval (step s (Tick all_off)) 2, ((step s (Tick all_off)).overlaps 3).interval)

-- 2 ends its green in tick 21
trails_then : trails (at 20) ≡ (intervals.Green, intervals.Yellow, overlaps.TrailGreen)
unfolding opened pointed two
trails_then = refl

-- the interval of 2, and whether the mistake keeps overlap 3 now and a tick later
abbrev keeps : State → Interval × Bool × Bool
keeps s = (interval s 2, kept_through_yellow s 3, kept_through_yellow (step s (Tick all_off)) 3)

-- 2 ends its yellow in tick 51
would_trail_late : keeps (at 50) ≡ (intervals.Yellow, true, false)
unfolding opened pointed two
would_trail_late = refl
