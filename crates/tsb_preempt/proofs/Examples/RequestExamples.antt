-- What the definitions give, by computing, of requests: delay, two preempts at once, switches and their refusals, and a
-- reset. And of cells: that they are read as they were written.
use Rattle.std.specs.Prelude.{◌≡◌, ℕ, ◌==◌, ◌||◌, true, false, if◌then◌else◌, List, [], ◌∷◌, map, Option, Some, None, refl}
use Rattle.tsb_cells.specs.declared.timer.Timer.TheVariants.{Off, On}
use Rattle.tsb_types.specs.declared.interval.Interval.TheVariants.{Green}
use Rattle.tsb_types.specs.declared.refusal.Refusal.TheVariants.{NoSuchPreempt}
use Rattle.tsb_types.specs.declared.stage.Stage.TheVariants.{Track, Dwell, Exit}
use Rattle.tsb_types.specs.Lists.{run_from}
use Rattle.tsb_types.specs.Sets.{number_of_bits}
use Rattle.tsb_objects.specs.tsb_plan.declared.object.Object.TheVariants.{PreemptDelay}
use Rattle.tsb_objects.specs.tsb_plan.Plan.{Plan, with_values}
use Rattle.tsb_objects.specs.tsb_plan.Quad.{quad}
use Rattle.tsb_preempt.specs.Service.{Service}
use Rattle.tsb_preempt.specs.Preempts.{Preempts, at_power_up, after_reset, requesting, beginning, new_service, next, switch_refusal, with_switch}
use Rattle.tsb_preempt.specs.Cells.{preempts_in, service_in, preempts_cells}
use Rattle.tsb_preempt.proofs.Examples.Examples.{both, alone, with_row, serving, service, switched}

-- ## Delay of 2 seconds: the input of the row is on in 21 ticks

unfoldable pub slow_plan : Plan
slow_plan = with_values quad ((PreemptDelay, 1, 2) ∷ [])

abbrev pub waiting : ℕ → Preempts
waiting n = record at_power_up { delay = λ k. if k == 1 then On n else Off }

delays : (next slow_plan (with_row 1 (both Green 2 6)) (waiting 18)).service ≡ None
unfolding slow_plan quad run_from requesting beginning new_service
delays = refl

delayed : (next slow_plan (with_row 1 (both Green 2 6)) (waiting 19)).service ≡ service 1 Dwell (On 0) Off
unfolding slow_plan quad run_from requesting beginning new_service
delayed = refl

-- preempt 3 of `quad` has no dwell phase: its delay timer runs, and it never requests
runs_without_dwell : (next quad (with_row 3 (both Green 2 6)) at_power_up).delay 3 ≡ On 0
unfolding quad
runs_without_dwell = refl

never_requests : requesting quad (with_row 3 (both Green 2 6)) at_power_up ≡ None
unfolding quad run_from requesting
never_requests = refl

-- ## Two inputs at once

-- the least is served
least_of_two : (next quad (record { row = λ k. true; interval = both Green 2 6 }) at_power_up).service
    ≡ service 1 Dwell (On 0) Off
unfolding quad run_from requesting beginning new_service
least_of_two = refl

-- ## Switches

-- a switch sets no other
sets_one : map (with_switch 1 true at_power_up).switch (run_from 0 4) ≡ false ∷ true ∷ false ∷ false ∷ []
unfolding run_from
sets_one = refl

refuses_0 : switch_refusal quad 0 false ≡ Some NoSuchPreempt
unfolding quad
refuses_0 = refl

refuses_9 : switch_refusal quad 9 false ≡ Some NoSuchPreempt
unfolding quad
refuses_9 = refl

refuses_3_on : switch_refusal quad 3 true ≡ Some NoSuchPreempt
unfolding quad
refuses_3_on = refl

takes_3_off : switch_refusal quad 3 false ≡ None
unfolding quad
takes_3_off = refl

takes_1_on : switch_refusal quad 1 true ≡ None
unfolding quad
takes_1_on = refl

-- ## A reset keeps the switches, and nothing else

abbrev pub before_reset : Preempts
before_reset = switched (record (serving 1 (On 5) Dwell (On 5) Off) { spent = alone 1 })

keeps_switches : map (after_reset before_reset).switch (run_from 1 4) ≡ true ∷ false ∷ false ∷ false ∷ []
unfolding run_from
keeps_switches = refl

clears_delay : (after_reset before_reset).delay 1 ≡ Off
clears_delay = refl

clears_spent : (after_reset before_reset).spent 1 ≡ false
clears_spent = refl

clears_service : (after_reset before_reset).service ≡ None
clears_service = refl

-- ## Cells: what is read at tick 201 is what was written at it

abbrev pub in_memory : Preempts → Preempts
in_memory w = preempts_in 201 (preempts_cells 201 w)

-- switches 1 and 4 are on, 2 and 3 are spent, and the delay timers of 2 and 4 are on
abbrev pub at_201_of : Option Service → Preempts
at_201_of s = record {
  switch = λ n. n == 1 || n == 4;
  spent = λ n. n == 2 || n == 3;
  delay = λ n. if n == 2 then On 0 else (if n == 4 then On 201 else Off);
  service = s;
}

reads_switches : map (in_memory (at_201_of None)).switch (run_from 1 4) ≡ true ∷ false ∷ false ∷ true ∷ []
unfolding preempts_in number_of_bits run_from
reads_switches = refl

reads_spent : map (in_memory (at_201_of None)).spent (run_from 1 4) ≡ false ∷ true ∷ true ∷ false ∷ []
unfolding preempts_in number_of_bits run_from
reads_spent = refl

reads_delays : map (in_memory (at_201_of None)).delay (run_from 0 6) ≡ Off ∷ Off ∷ On 0 ∷ Off ∷ On 201 ∷ Off ∷ []
unfolding preempts_in run_from
reads_delays = refl

abbrev pub services : List (Option Service)
services = None ∷ service 1 Track (On 7) (On 3) ∷ service 2 Track (On 0) Off ∷ service 3 Dwell (On 201) Off
    ∷ service 4 Exit (On 140) Off ∷ []

reads_services : map (λ s. (in_memory (at_201_of s)).service) services ≡ services
unfolding preempts_in service_in run_from
reads_services = refl
