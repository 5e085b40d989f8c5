-- What the definitions of yellow change, red clearance, red revert and of a start give, by computing, each at its first
-- tick. Phase 2 of the built-in plan of eight phases has a yellow change of 3 seconds and a red clearance of 1; the
-- unit has a red revert of 2. What a start takes is shown on phase 1 of the plan of Examples.
use Rattle.std.specs.Prelude.{◌≡◌, ℕ, ◌==◌, true, false, Some, refl, [], ◌∷◌}
use Rattle.tsb_cells.specs.declared.timer.Timer.{Timer}
use Rattle.tsb_cells.specs.declared.timer.Timer.TheVariants.{Off, On}
use Rattle.tsb_objects.specs.tsb_types.declared.interval.Interval.TheVariants.{Green, Yellow, RedClear}
use Rattle.tsb_objects.specs.tsb_types.Lists.{run_from}
use Rattle.tsb_objects.specs.tsb_plan.declared.object.Object.TheVariants.{PhaseRedClear, PhaseRedRevert, PhaseMinimumGreen, PhasePassage, PhaseSimGapDisable, PhaseVariableInitial}
use Rattle.tsb_objects.specs.tsb_plan.Plan.{Plan, with_value, with_values}
use Rattle.tsb_objects.specs.tsb_plan.Quad.{quad}
use Rattle.tsb_phase.specs.Phase.{Phase, Given, Moved, at_power_up, none_held, none_moved}
use Rattle.tsb_phase.specs.Green.{cars_waiting, reduction_timer, gap, initial, forced_latch}
use Rattle.tsb_phase.specs.DynamicMaximum.{maximum_in_use}
use Rattle.tsb_phase.specs.Pedestrian.{pedestrian_now}
use Rattle.tsb_phase.specs.Ready.{is_ready, is_over, red_revert_passed}
use Rattle.tsb_phase.specs.Next.{next}
use Rattle.tsb_phase.proofs.Examples.Examples.{plan, nothing, waiting}

abbrev pub in_yellow : ℕ → Phase
in_yellow n = record at_power_up { interval = Yellow; timer = On n }

-- in red clearance for so many ticks, which are those since its yellow ended
abbrev pub in_red_clear : ℕ → Phase
in_red_clear n = record at_power_up { interval = RedClear; timer = On n; red_revert = On n }

abbrev pub in_red : Timer → Phase
in_red since = record at_power_up { red_revert = since }

abbrev pub clears_two : Moved
clears_two = record none_moved { clears = λ p. p == 2 }

abbrev pub starts_one : Moved
starts_one = record none_moved { starts = λ p. p == 1 }

-- ## Yellow and red clearance

yellow_stays : next quad nothing none_moved 2 (in_yellow 28) ≡ in_yellow 29
unfolding quad
yellow_stays = refl

yellow_ends : next quad nothing none_moved 2 (in_yellow 29) ≡ in_red_clear 0
unfolding quad
yellow_ends = refl

not_over : is_over quad 2 (in_red_clear 9) ≡ false
unfolding quad is_over
not_over = refl

over : is_over quad 2 (in_red_clear 10) ≡ true
unfolding quad is_over
over = refl

goes_red : next quad nothing clears_two 2 (in_red_clear 9) ≡ in_red (On 10)
unfolding quad
goes_red = refl

-- an over phase that does not clear stays in red clearance
stays : next quad nothing none_moved 2 (in_red_clear 9) ≡ in_red_clear 10
unfolding quad
stays = refl

-- a red clearance of 0 is over as yellow ends
abbrev pub without_red_clear : Plan
without_red_clear = with_value quad PhaseRedClear 2 0

not_over_in_yellow : is_over quad 2 (in_yellow 30) ≡ false
unfolding quad is_over
not_over_in_yellow = refl

over_at_once : is_over without_red_clear 2 (in_yellow 30) ≡ true
unfolding quad is_over
over_at_once = refl

goes_red_at_once : next without_red_clear nothing clears_two 2 (in_yellow 29) ≡ in_red (On 0)
unfolding quad
goes_red_at_once = refl

-- ## Red revert

before_revert : red_revert_passed quad 2 (in_red (On 19)) ≡ false
unfolding quad red_revert_passed
before_revert = refl

after_revert : red_revert_passed quad 2 (in_red (On 20)) ≡ true
unfolding quad red_revert_passed
after_revert = refl

-- the phase's own counts where it is larger
own_revert : red_revert_passed (with_value quad PhaseRedRevert 2 25) 2 (in_red (On 24)) ≡ false
unfolding quad red_revert_passed
own_revert = refl

-- it begins as yellow ends
begins_as_yellow_ends : red_revert_passed quad 2 (in_yellow 30) ≡ false
unfolding quad red_revert_passed
begins_as_yellow_ends = refl

-- a phase that never was in yellow need not wait
never_yellow : red_revert_passed quad 2 at_power_up ≡ true
unfolding quad red_revert_passed
never_yellow = refl

-- ## A start

-- passage timer and conflict timer begin
starts : next plan (waiting 0) starts_one 1 (in_red (On 99))
    ≡ record at_power_up { interval = Green; timer = On 0; passage = On 0; conflict = On 0 }
unfolding plan run_from cars_waiting reduction_timer gap initial
starts = refl

-- with enough cars the reduction timer begins at once
starts_reduced : next plan (waiting 4) starts_one 1 (in_red Off)
    ≡ record at_power_up { interval = Green; timer = On 0; passage = On 0; conflict = On 0; reduction = On 0 }
unfolding plan run_from cars_waiting reduction_timer gap initial
starts_reduced = refl

-- with an initial time and a passage time of 0 it has gapped out at once
abbrev pub short : Plan
short = with_values plan (
    (PhaseMinimumGreen, 1, 0) ∷ (PhaseVariableInitial, 1, 0) ∷ (PhasePassage, 1, 0) ∷ (PhaseSimGapDisable, 1, 1) ∷ [])

starts_gapped : next short (waiting 0) starts_one 1 (in_red Off)
    ≡ record at_power_up { interval = Green; timer = On 0; passage = On 0; conflict = On 0; gapped = true }
unfolding plan run_from cars_waiting reduction_timer gap initial
starts_gapped = refl

-- but a start has no force-off
abbrev pub at_instant : Given
at_instant = record (waiting 0) { runs = Some 1; forced = λ p. p == 1 }

starts_unforced : (next plan at_instant starts_one 1 (in_red Off)).forced ≡ false
unfolding plan run_from cars_waiting reduction_timer gap initial
starts_unforced = refl

-- ## Force-off, in pattern 1 of the plan of eight phases, whose coordinated phases are 2 and 6

abbrev pub coordinated : Given
coordinated = record nothing { conflict = λ p. p == 2; runs = Some 1; hold = λ p. p == 2 }

-- a green of 60 seconds that has gapped out
abbrev pub green : Phase
green = record at_power_up { interval = Green; timer = On 600; passage = On 600; conflict = On 300 }

-- nothing but its force-off ends a coordinated phase
held_green : is_ready quad coordinated 2 green ≡ false
unfolding quad reduction_timer gap initial maximum_in_use pedestrian_now is_ready run_from cars_waiting
held_green = refl

forced_off : is_ready quad (record coordinated { forced = λ p. p == 2 }) 2 green ≡ true
unfolding quad reduction_timer gap initial maximum_in_use pedestrian_now is_ready run_from cars_waiting
forced_off = refl

-- the latch keeps it while the conflict stands
still_forced : is_ready quad coordinated 2 (record green { forced = true }) ≡ true
unfolding quad reduction_timer gap initial maximum_in_use pedestrian_now is_ready run_from cars_waiting
still_forced = refl

no_more_forced : forced_latch quad (record coordinated { conflict = λ p. false }) 2 (record none_held { forced = true }) ≡ false
no_more_forced = refl

-- under a preempt that wants it served its gap may end it
not_held : is_ready quad (record coordinated { service = Some 1 }) 2 green ≡ true
unfolding quad reduction_timer gap initial maximum_in_use pedestrian_now is_ready run_from cars_waiting
not_held = refl
