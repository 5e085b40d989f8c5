-- What the definitions give, by computing, of a preempt whose Dwell ends while its input is on: it is spent until the
-- input is off. And what does not make a preempt spent.
use Rattle.std.specs.Prelude.{◌≡◌, ◌==◌, true, false, if◌then◌else◌, [], ◌∷◌, None, refl}
use Rattle.tsb_cells.specs.declared.timer.Timer.TheVariants.{Off, On}
use Rattle.tsb_types.specs.declared.interval.Interval.TheVariants.{Green, RedClear}
use Rattle.tsb_types.specs.declared.stage.Stage.TheVariants.{Dwell, Exit}
use Rattle.tsb_types.specs.Lists.{run_from}
use Rattle.tsb_objects.specs.tsb_plan.declared.object.Object.TheVariants.{PreemptMaximumPresence, PreemptMinimumDuration}
use Rattle.tsb_objects.specs.tsb_plan.Plan.{Plan, with_values}
use Rattle.tsb_objects.specs.tsb_plan.Quad.{quad}
use Rattle.tsb_preempt.specs.Service.{all_green}
use Rattle.tsb_preempt.specs.Preempts.{Preempts, Given, at_power_up, requesting, beginning, new_service, dwell_ends, next, with_switch}
use Rattle.tsb_preempt.proofs.Examples.Examples.{plan, both, alone, without_row, with_row, serving, service, switched}

-- ## Maximum presence of 12 seconds: spent until the input is off

unfoldable pub short_plan : Plan
short_plan = with_values quad ((PreemptMaximumPresence, 1, 12) ∷ [])

abbrev pub at_180 : Preempts
at_180 = switched (serving 1 (On 119) Dwell (On 119) Off)

present : (next short_plan (without_row (both Green 3 8)) (switched (serving 1 (On 118) Dwell (On 118) Off))).service
    ≡ at_180.service
unfolding short_plan quad run_from requesting beginning new_service
present = refl

-- service ends at tick 181
presence_ends : (next short_plan (without_row (both Green 3 8)) at_180).service ≡ None
unfolding short_plan quad run_from requesting beginning new_service
presence_ends = refl

is_spent : (next short_plan (without_row (both Green 3 8)) at_180).spent 1 ≡ true
unfolding short_plan quad run_from requesting beginning dwell_ends
is_spent = refl

-- the switch is still on at tick 182
abbrev pub at_181 : Preempts
at_181 = switched (record at_power_up { delay = λ k. if k == 1 then On 120 else Off; spent = alone 1 })

spent_is_kept : (next short_plan (without_row (both Green 3 8)) at_181).spent 1 ≡ true
unfolding short_plan quad run_from requesting beginning dwell_ends
spent_is_kept = refl

spent_is_not_served : (next short_plan (without_row (both Green 3 8)) at_181).service ≡ None
unfolding short_plan quad run_from requesting beginning new_service
spent_is_not_served = refl

-- at tick 183 it is off, and at tick 184 on
off_again : (next short_plan (without_row (both Green 3 8)) (with_switch 1 false at_181)).spent 1 ≡ false
unfolding short_plan quad run_from requesting beginning dwell_ends
off_again = refl

on_again : (next short_plan (without_row (both Green 3 8)) (switched at_power_up)).service ≡ service 1 Dwell (On 0) Off
unfolding short_plan quad run_from requesting beginning new_service
on_again = refl

-- ## Maximum presence ends Dwell with the input off too, before a minimum duration of 20 seconds

unfoldable pub long_plan : Plan
long_plan = with_values quad ((PreemptMaximumPresence, 1, 12) ∷ (PreemptMinimumDuration, 1, 20) ∷ [])

presence_ends_without_input : (next long_plan (without_row (both Green 3 8)) (serving 1 Off Dwell (On 119) Off)).service
    ≡ None
unfolding long_plan quad run_from requesting beginning new_service
presence_ends_without_input = refl

-- ## Not spent

-- one whose Dwell ends with its input off
ends_unspent : (next plan (without_row (both Green 3 8)) (serving 1 Off Dwell (On 99) Off)).spent 1 ≡ false
unfolding plan quad run_from requesting beginning dwell_ends
ends_unspent = refl

-- one that another interrupts at its maximum presence
unfoldable pub short_second_plan : Plan
short_second_plan = with_values quad ((PreemptMaximumPresence, 2, 12) ∷ [])

abbrev pub with_both_rows : Given
with_both_rows = record { row = λ k. true; interval = both Green 4 7 }

interrupted_is_not_spent : (next short_second_plan with_both_rows (serving 2 (On 119) Dwell (On 119) Off)).spent 2 ≡ false
unfolding short_second_plan quad run_from requesting beginning dwell_ends
interrupted_is_not_spent = refl

-- one whose input is on while the Dwell of another ends
other_is_not_spent : (next short_plan (with_row 2 (both Green 3 8)) at_180).spent 2 ≡ false
unfolding short_plan quad run_from requesting beginning dwell_ends
other_is_not_spent = refl

-- ## In Exit one that is spent does not begin anew while its input is on

abbrev pub spent_at_139 : Preempts
spent_at_139 = record (serving 1 (On 5) Exit (On 139) Off) { spent = alone 1 }

spent_in_exit : (next plan (with_row 1 (both RedClear 3 8)) spent_at_139).service
    ≡ service 1 Exit (On 140) Off
unfolding plan quad run_from requesting beginning new_service all_green
spent_in_exit = refl
