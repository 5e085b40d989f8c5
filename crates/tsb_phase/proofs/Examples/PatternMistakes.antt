-- Mistakes in floating force-off and in the maximum that acts while a pattern runs, each with an example in which it
-- differs from the definition. PatternExamples has what the definition gives there.
use Rattle.std.specs.Prelude.{◌≡◌, ℕ, ◌-◌, ◌*◌, ◌==◌, Bool, true, false, if◌then◌else◌, Option, Some, None, refl}
use Rattle.tsb_cells.specs.declared.timer.Timer.TheVariants.{Off, On}
use Rattle.tsb_objects.specs.tsb_plan.declared.object.Object.TheVariants.{CoordMaximumMode, PhaseMaximum1}
use Rattle.tsb_objects.specs.tsb_plan.Parts.{floats, split_time}
use Rattle.tsb_objects.specs.tsb_plan.Plan.{Plan, red_clear}
use Rattle.tsb_objects.specs.tsb_plan.Quad.{quad}
use Rattle.tsb_objects.specs.tsb_plan.Running.{split_green, floating_in, floating_time, maximum_by_mode}
use Rattle.tsb_phase.specs.Phase.{Given, GreenHeld}
use Rattle.tsb_phase.specs.DynamicMaximum.{maximum_in_use}
use Rattle.tsb_phase.specs.Green.{conflict_timer, has_reached_some, floats_off}
use Rattle.tsb_phase.proofs.Examples.Examples.{held}
use Rattle.tsb_phase.proofs.Examples.PatternExamples.{floating, driven_in_pattern, by_first, by_second, grown}

-- ## Floating force-off counts from the conflict, and not from the green

abbrev pub floats_from_conflict : Plan → Given → ℕ → GreenHeld → Bool
floats_from_conflict plan given p held = has_reached_some (conflict_timer given p held) (floating_time plan given.runs p)

-- the green has lasted its 11 seconds, and another phase has waited for 2 of them
has_floated : floats_off floating driven_in_pattern 3 (held 110 Off (On 20) Off) ≡ true
unfolding quad floating
has_floated = refl

does_not_float : floats_from_conflict floating driven_in_pattern 3 (held 110 Off (On 20) Off) ≡ false
unfolding quad floating
does_not_float = refl

-- ## Coordinated phases float too

abbrev pub floating_of_all : Plan → ℕ → ℕ → Option ℕ
floating_of_all plan t p = if floats plan then Some (split_green plan t p) else None

rests : floating_in floating (Some 1) 2 ≡ None
unfolding quad floating
rests = refl

floats_though_coordinated : floating_of_all floating 1 2 ≡ Some 210
unfolding quad floating
floats_though_coordinated = refl

-- ## The yellow change is not taken off the split

abbrev pub green_and_yellow : Plan → ℕ → ℕ → ℕ
green_and_yellow plan t p = split_time plan t p - red_clear plan p

leaves_its_yellow : split_green floating 1 3 ≡ 110
unfolding quad floating
leaves_its_yellow = refl

-- yellow change and red clearance would end 3 seconds after the split
goes_over_its_split : green_and_yellow floating 1 3 ≡ 140
unfolding quad floating
goes_over_its_split = refl

-- ## The maximum of the mode ends coordinated phases too

abbrev pub maximum_of_all : Plan → ℕ → Option ℕ
maximum_of_all plan p = maximum_by_mode plan p

would_have_one : maximum_of_all by_first 2 ≡ Some 200
unfolding quad by_first
would_have_one = refl

-- ## The dynamic maximum acts in a pattern

abbrev pub dynamic_in_pattern : Plan → ℕ → Option ℕ → Option ℕ
dynamic_in_pattern plan p running = Some (maximum_in_use plan p running)

would_have_grown : dynamic_in_pattern grown 3 (Some 350) ≡ Some 350
unfolding quad by_first maximum_in_use
would_have_grown = refl

-- ## Maximum mode 2 gives phaseMaximum1

abbrev pub first_in_both_modes : Plan → ℕ → Option ℕ
first_in_both_modes plan p = if plan.value CoordMaximumMode 1 == 0 then None else Some (10 * plan.value PhaseMaximum1 p)

would_give_first : first_in_both_modes by_second 3 ≡ Some 200
unfolding quad by_second
would_give_first = refl
