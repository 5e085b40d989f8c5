-- One-line mistakes, each with an example in which it differs from the definition.
use Rattle.std.specs.Prelude.{◌≡◌, ℕ, Bool, true, false, ◌&&◌, ◌||◌, if◌then◌else◌, reverse, Option, Some, is_some, is_none, refl}
use Rattle.tsb_cells.specs.declared.timer.Timer.{Timer}
use Rattle.tsb_cells.specs.declared.timer.Timer.TheVariants.{Off, On}
use Rattle.tsb_cells.specs.Timer.{started, has_reached}
use Rattle.tsb_types.specs.declared.interval.Interval.{Interval}
use Rattle.tsb_types.specs.declared.interval.Interval.TheVariants.{Green, RedClear}
use Rattle.tsb_types.specs.declared.stage.Stage.TheVariants.{Track, Dwell, Exit}
use Rattle.tsb_types.specs.Lists.{run_from, first}
use Rattle.tsb_objects.specs.tsb_plan.Plan.{Plan}
use Rattle.tsb_objects.specs.tsb_plan.Parts.{preempt_maximum_presence, is_track_phase, is_exit_phase}
use Rattle.tsb_objects.specs.tsb_plan.Quad.{quad}
use Rattle.tsb_preempt.specs.Service.{Service, has_dwell, all_green, track_timer, ends_exit, exceeds_presence}
use Rattle.tsb_preempt.specs.Preempts.{Preempts, Given, at_power_up, as_read, has_input, delay_timer, still_spent, requests, requesting, beginning, new_service, dwell_ends_of, dwell_ends, new_spent, service_ended}
use Rattle.tsb_preempt.proofs.Examples.Examples.{plan, both, with_row, without_row, serving, switched}
use Rattle.tsb_preempt.proofs.Examples.SpentExamples.{short_plan, short_second_plan, with_both_rows, at_181}

-- ## Exit ends in the tick in which its list becomes Green, and not in the one after it

abbrev pub ends_exit_by_new : Plan → (ℕ → Interval) → (ℕ → Interval) → Service → Bool
ends_exit_by_new plan was new s = all_green plan new (is_exit_phase plan s.preempt)

abbrev pub in_exit : Service
in_exit = record { preempt = 1; stage = Exit; timer = On 140; stage_timer = Off }

-- at tick 201 of the example 2 and 6 become Green
not_yet : ends_exit plan (both RedClear 3 8) in_exit ≡ false
unfolding plan quad run_from all_green
not_yet = refl

too_soon : ends_exit_by_new plan (both RedClear 3 8) (both Green 2 6) in_exit ≡ true
unfolding plan quad run_from all_green
too_soon = refl

-- ## A spent preempt is so for one tick

abbrev pub spent_once : Plan → Given → Preempts → ℕ → Bool
spent_once plan given w n = dwell_ends plan given w n && has_input given w n

kept : new_spent short_plan (without_row (both Green 3 8)) (as_read at_181) 1 ≡ true
unfolding dwell_ends
kept = refl

forgotten : spent_once short_plan (without_row (both Green 3 8)) (as_read at_181) 1 ≡ false
unfolding short_plan quad run_from requesting beginning dwell_ends
forgotten = refl

-- ## A preempt is spent by each end of its Dwell

abbrev pub spent_by_end : Plan → Given → Preempts → ℕ → Bool
spent_by_end plan given w n = still_spent given w n || dwell_ends plan given w n

-- its input is off
abbrev pub done : Preempts
done = as_read (serving 1 Off Dwell (On 99) Off)

unspent : new_spent plan (without_row (both Green 3 8)) done 1 ≡ false
unfolding plan quad run_from requesting beginning dwell_ends
unspent = refl

spent_at_end : spent_by_end plan (without_row (both Green 3 8)) done 1 ≡ true
unfolding plan quad run_from requesting beginning dwell_ends
spent_at_end = refl

-- ## A preempt that another interrupts is spent, where its Dwell would have ended

abbrev pub dwell_would_end : Plan → Given → Preempts → ℕ → Bool
dwell_would_end plan given w n = dwell_ends_of plan given w w.service n

abbrev pub at_maximum : Preempts
at_maximum = as_read (serving 2 (On 119) Dwell (On 119) Off)

interrupted : dwell_ends short_second_plan with_both_rows at_maximum 2 ≡ false
unfolding short_second_plan quad run_from requesting beginning dwell_ends
interrupted = refl

taken_for_spent : dwell_would_end short_second_plan with_both_rows at_maximum 2 ≡ true
unfolding short_second_plan quad
taken_for_spent = refl

-- ## The greatest requesting preempt is served

abbrev pub requesting_greatest : Plan → Given → Preempts → Option ℕ
requesting_greatest plan given w = first (requests plan given w) (reverse (run_from 1 plan.counts.preempts))

least : requesting quad with_both_rows at_power_up ≡ Some 1
unfolding quad run_from requesting
least = refl

greatest : requesting_greatest quad with_both_rows at_power_up ≡ Some 2
unfolding quad run_from
greatest = refl

-- ## The delay timer runs only where there is a dwell list

abbrev pub delay_with_dwell : Plan → Given → Preempts → ℕ → Timer
delay_with_dwell plan given w n = if has_dwell plan n && has_input given w n then started (w.delay n) else Off

runs : delay_timer (with_row 3 (both Green 2 6)) at_power_up 3 ≡ On 0
runs = refl

runs_not : delay_with_dwell quad (with_row 3 (both Green 2 6)) at_power_up 3 ≡ Off
unfolding quad
runs_not = refl

-- ## The timer of Track stops when a track phase is no longer Green

abbrev pub track_timer_while_green : Plan → (ℕ → Interval) → Service → Timer
track_timer_while_green plan interval s =
    if all_green plan interval (is_track_phase plan s.preempt) then started s.stage_timer else Off

abbrev pub in_track : Service
in_track = record { preempt = 1; stage = Track; timer = On 10; stage_timer = On 9 }

goes_on : track_timer plan (both Green 2 5) in_track ≡ On 9
unfolding plan quad run_from all_green
goes_on = refl

stops : track_timer_while_green plan (both Green 2 5) in_track ≡ Off
unfolding plan quad run_from all_green
stops = refl

-- ## Service ends when another preempt takes over, which `not_ended` of the examples says it does not

abbrev pub ended_or_begun : Plan → Given → Preempts → Bool
ended_or_begun plan given w =
    is_some w.service && (is_none (new_service plan given w) || is_some (beginning plan given w))

taken_for_ended : ended_or_begun quad (with_row 1 (both Green 4 7)) (as_read (serving 2 (On 139) Dwell (On 139) Off))
    ≡ true
unfolding quad run_from requesting beginning new_service
taken_for_ended = refl

-- ## Service ends in every tick without service

abbrev pub ended_now : Plan → Given → Preempts → Bool
ended_now plan given w = is_none (new_service plan given w)

none_ends : service_ended quad (without_row (both Green 2 6)) at_power_up ≡ false
unfolding quad run_from requesting beginning new_service
none_ends = refl

none_for_ended : ended_now quad (without_row (both Green 2 6)) at_power_up ≡ true
unfolding quad run_from requesting beginning new_service
none_for_ended = refl

-- ## A switch alone is no input

abbrev pub input_of_row : Given → Preempts → ℕ → Bool
input_of_row given w n = given.row n

switch_counts : has_input (without_row (both Green 2 6)) (switched at_power_up) 1 ≡ true
switch_counts = refl

switch_counts_not : input_of_row (without_row (both Green 2 6)) (switched at_power_up) 1 ≡ false
switch_counts_not = refl

-- ## A maximum presence of 0 ends Dwell at once

abbrev pub exceeds_any_presence : Plan → Service → Bool
exceeds_any_presence plan s = has_reached s.timer (preempt_maximum_presence plan s.preempt)

abbrev pub in_dwell : Service
in_dwell = record { preempt = 1; stage = Dwell; timer = On 1; stage_timer = Off }

for_any_time : exceeds_presence quad in_dwell ≡ false
unfolding quad
for_any_time = refl

at_once : exceeds_any_presence quad in_dwell ≡ true
unfolding quad
at_once = refl
