-- A run from power-up with an arrow and an overlap that trails, computed, and mistakes that its laws refuse. There is one
-- ring with phases 2 and 4, one on each side, as in TimeRuns. Overlap 2 is an arrow whose turn is 4 and which 2 opposes.
-- Overlap 3 goes with 2 and trails: 20 ticks of green, 30 of yellow, 10 of red clearance. All inputs are off.
use Rattle.std.proofs.Common.{◌≡◌, ℕ, Bool, true, ◌&&◌, ◌||◌, List, [], ◌∷◌, Some, None, refl}
use Rattle.std.specs.List.{list_any}
use Rattle.tsb_types.specs.declared.interval.Interval.TheVariants as intervals
use Rattle.tsb_types.specs.declared.lamp.Aspect.TheVariants as aspects
use Rattle.tsb_types.specs.Intervals.{is_green, is_yellow}
use Rattle.tsb_types.specs.Sets.{all_off}
use Rattle.tsb_objects.specs.tsb_plan.declared.object.Object.{Object}
use Rattle.tsb_objects.specs.tsb_plan.declared.object.Object.TheVariants.{OverlapIncludedPhases, OverlapModifierPhases, OverlapTrailGreen, OverlapTrailRed, OverlapTrailYellow, OverlapType}
use Rattle.tsb_objects.specs.tsb_plan.Parts.{is_included}
use Rattle.tsb_objects.specs.tsb_plan.Plan.{Plan, phases, with_values}
use Rattle.tsb_objects.specs.tsb_plan.Two.{two}
use Rattle.tsb_objects.specs.tsb_rules.Rules.{first_broken}
use Rattle.tsb_overlap.specs.declared.parts.OverlapInterval.TheVariants.{Red, Green, TrailGreen, Flashing, Yellow, RedClear}
use Rattle.tsb_overlap.specs.Overlap.{Overlap, Given, light, standing, yellow_of}
use Rattle.tsb_step.specs.declared.waits.Wait.TheVariants as waits
use Rattle.tsb_step.specs.State.{State, interval}
use Rattle.tsb_step.specs.Signs.{display}
use Rattle.tsb_step.specs.Runs.{replay}
use Rattle.tsb_step.specs.Tick.{held, over, overlaps_given}
use Rattle.tsb_step.specs.Waits.{waits_for}
use Rattle.tsb_step.proofs.Examples.TimeRuns.{brisk, ticks_after}
use Rattle.tsb_step.proofs.Examples.WaitExamples.{opened}

abbrev lively_values : List (Object × ℕ × ℕ)
lively_values =
    (OverlapType, 2, 2) ∷ (OverlapIncludedPhases, 2, 2) ∷ (OverlapModifierPhases, 2, 8) ∷
    (OverlapIncludedPhases, 3, 2) ∷ (OverlapTrailGreen, 3, 2) ∷ (OverlapTrailYellow, 3, 30) ∷ (OverlapTrailRed, 3, 10) ∷ []

unfoldable lively : Plan
lively = with_values brisk lively_values

lively_rules : first_broken lively ≡ None
unfolding opened lively brisk two
lively_rules = refl

-- the state after so many ticks
abbrev at : ℕ → State
at n = replay lively (ticks_after [] n)

-- ## The arrow

-- it flashes while 2 is Green
flashes : (at 20).overlaps 2 ≡ standing Flashing
unfolding opened lively brisk two
flashes = refl

opposed : interval (at 20) 2 ≡ intervals.Green
unfolding opened lively brisk two
opposed = refl

-- both begin their yellow in one tick, and end it in one
clears : (at 21).overlaps 2 ≡ yellow_of 2
unfolding opened lively brisk two
clears = refl

clears_too : interval (at 21) 2 ≡ intervals.Yellow
unfolding opened lively brisk two
clears_too = refl

clears_on : (display (at 50)).overlap 2 ≡ aspects.Yellow
unfolding opened lively brisk two
clears_on = refl

is_red : (at 51).overlaps 2 ≡ standing Red
unfolding opened lively brisk two
is_red = refl

-- it is green with its turn, which starts as 2 is let go
points : (at 81).overlaps 2 ≡ standing Green
unfolding opened lively brisk two
points = refl

turns : interval (at 81) 4 ≡ intervals.Green
unfolding opened lively brisk two
turns = refl

-- ## The overlap that trails

-- it is green after 2, then it has its yellow and its red clearance
is_kept : (at 20).overlaps 3 ≡ standing Green
unfolding opened lively brisk two
is_kept = refl

trails_on : ((at 40).overlaps 3).interval ≡ TrailGreen
unfolding opened lively brisk two
trails_on = refl

has_yellow : ((at 41).overlaps 3).interval ≡ Yellow
unfolding opened lively brisk two
has_yellow = refl

clears_after : ((at 71).overlaps 3).interval ≡ RedClear
unfolding opened lively brisk two
clears_after = refl

-- so long 2 clears, which would be Red 20 ticks before
holds_2 : interval (at 80) 2 ≡ intervals.RedClear
unfolding opened lively brisk two
holds_2 = refl

lets_2_go : interval (at 81) 2 ≡ intervals.Red
unfolding opened lively brisk two
lets_2_go = refl

is_off : (at 81).overlaps 3 ≡ standing Red
unfolding opened lively brisk two
is_off = refl

-- 4 waits for it from the tick in which the clearance of 2 is over
waits_for_2 : waits_for (at 59) 4 ≡ Some (waits.Clears 2 2)
unfolding opened lively brisk two
waits_for_2 = refl

waits_for_the_trail : waits_for (at 60) 4 ≡ Some (waits.Trails 2 3 21)
unfolding opened lively brisk two
waits_for_the_trail = refl

-- ## A phase that is over with its own clearance, though an overlap holds it

is_over_2 : over (at 60) 2 ≡ true
unfolding opened lively brisk two
is_over_2 = refl

is_held_2 : held (at 60) all_off 2 ≡ true
unfolding opened lively brisk two
is_held_2 = refl

-- it would be Red as the overlap shows yellow
still_yellow : (display (at 61)).overlap 3 ≡ aspects.Yellow
unfolding opened lively brisk two
still_yellow = refl

-- ## An arrow that turns red as its flashing ends

abbrev ends_red : ℕ → Bool → Overlap
ends_red t was_green = standing Red

would_be_red : light (ends_red 4 true).interval ≡ aspects.Red
would_be_red = refl

-- ## An arrow that flashes on while a phase that opposes it clears

abbrev flashes_on : Plan → Given → ℕ → Bool
flashes_on plan given o =
    list_any (λ p. is_included plan o p && (is_green (given.shown.interval p) || is_yellow (given.shown.interval p))) (phases plan)

-- as 2 is Yellow and the ring is committed to the turn
would_flash_on : flashes_on lively (overlaps_given (at 20) all_off) 2 ≡ true
unfolding opened lively brisk two
would_flash_on = refl
