-- A run from power-up that meets all premises of the laws of calls, and mistakes that these laws refuse.
use Rattle.std.proofs.Common.{◌≡◌, ℕ, ◌≤◌, ◌==◌, Bool, true, false, not, ◌&&◌, ◌||◌, List, [], ◌∷◌, ◌++◌, Some, refl, arith}
use Rattle.tsb_step.specs.tsb_cells.declared.timer.Timer.TheVariants.{Off, On}
use Rattle.tsb_step.specs.tsb_types.Sets.{all_off}
use Rattle.tsb_step.specs.tsb_types.declared.interval.Interval.TheVariants.{Green, Yellow}
use Rattle.tsb_step.specs.tsb_types.declared.row.Row.{Row}
use Rattle.tsb_step.specs.tsb_types.declared.stage.Stage.TheVariants.{Dwell}
use Rattle.tsb_step.specs.tsb_types.Intervals.{in_service}
use Rattle.tsb_step.specs.tsb_plan.Plan.{Plan}
use Rattle.tsb_step.specs.tsb_plan.Quad.{quad}
use Rattle.tsb_step.specs.tsb_calls.Memories as calls
use Rattle.tsb_step.specs.tsb_calls.Memories.{has_output}
use Rattle.tsb_step.specs.tsb_phase.Phase as phase
use Rattle.tsb_step.specs.tsb_preempt.Preempts as preempts
use Rattle.tsb_step.specs.tsb_ring.Moves.{is_started}
use Rattle.tsb_step.specs.declared.inputs.Input.{Input}
use Rattle.tsb_step.specs.declared.inputs.Input.TheVariants.{Tick}
use Rattle.tsb_step.specs.State.{State, interval}
use Rattle.tsb_step.specs.Tick.{calls_given, set, moves}
use Rattle.tsb_step.specs.Runs.{replay, AreTaken}
use Rattle.tsb_step.specs.Laws.{IsConsistent}
use Rattle.tsb_step.proofs.Examples.Scenes.{opened, after, vehicle, button, these, all_red, called, red, resting, entering}
use Rattle.tsb_laws.specs.KeptCalls.{RunsOn}
use Rattle.tsb_laws.proofs.safety.Examples.PlanFits.{quad_count, quad_consistent}

-- ## A car calls 4 and a pedestrian 2, and two ticks come

abbrev asked : Row
asked = record (vehicle 4) { pedestrians = (button 2).pedestrians }

abbrev asking : List Input
asking = Tick asked ∷ Tick all_off ∷ []

abbrev waiting : List Input
waiting = Tick all_off ∷ Tick all_off ∷ []

taken : AreTaken quad (waiting ++ asking)
unfolding opened
taken = ((((tt, refl), refl), refl), refl)

runs_on : RunsOn quad asking waiting
unfolding opened
runs_on = ((tt, refl), refl)

is_remembered_4 : (replay quad asking).memories.vehicle 4 ≡ true
unfolding opened
is_remembered_4 = refl

is_remembered_2 : (replay quad asking).memories.pedestrian 2 ≡ true
unfolding opened
is_remembered_2 = refl

record Call (plan : Plan) (is later : List Input) (p q : ℕ) : Type 0 where
  consistent : IsConsistent plan
  few : plan.phase_count ≤ 16
  taken : AreTaken plan (later ++ is)
  runs_on : RunsOn plan is later
  vehicle : (replay plan is).memories.vehicle p ≡ true
  pedestrian : (replay plan is).memories.pedestrian q ≡ true

a_call : Call quad asking waiting 4 2
a_call = record {
  consistent = quad_consistent;
  few = (let count = quad_count.0 in omega (arith, count));
  taken = taken;
  runs_on = runs_on;
  vehicle = is_remembered_4;
  pedestrian = is_remembered_2;
}

-- ## A phase that remembers an output only while it is Red

-- 2 has been Yellow for 9 ticks, and a car comes
abbrev yellowing : State
yellowing = record red { phases = these (2 ∷ []) (record phase.at_power_up { interval = Yellow; timer = On 9 }) all_red }

remembers_2 : (after yellowing (vehicle 2)).memories.vehicle 2 ≡ true
unfolding opened
remembers_2 = refl

abbrev remembers_in_red : State → Row → ℕ → Bool
remembers_in_red s row p = s.memories.vehicle p || (not (in_service (interval s p)) && has_output s.plan (calls_given s row) p)

would_forget_2 : remembers_in_red yellowing (vehicle 2) 2 ≡ false
unfolding opened
would_forget_2 = refl

-- ## A memory that falls with the output

-- 4 is remembered, and its detector is off again
abbrev called_4 : State
called_4 = record resting { memories = called (4 ∷ []) }

stands_4 : (after called_4 all_off).memories.vehicle 4 ≡ true
unfolding opened
stands_4 = refl

abbrev falls_with_output : State → Row → ℕ → Bool
falls_with_output s row p = s.memories.vehicle p && has_output s.plan (calls_given s row) p

would_lose_4 : falls_with_output called_4 all_off 4 ≡ false
unfolding opened
would_lose_4 = refl

-- ## A pedestrian call that falls as its phase starts, walk or not

-- preempt 1 is in service, and 2, to which ring 1 was committed before, starts without its walk
abbrev starting_2 : State
starting_2 = record entering {
  memories = record calls.at_power_up { pedestrian = λ p. p == 2 };
  preempts = record preempts.at_power_up {
    service = Some (record { preempt = 1; stage = Dwell; timer = On 9; stage_timer = Off });
  };
}

starts_2 : interval (after starting_2 all_off) 2 ≡ Green
unfolding opened
starts_2 = refl

stands_2 : (after starting_2 all_off).memories.pedestrian 2 ≡ true
unfolding opened
stands_2 = refl

abbrev falls_at_start : State → Row → ℕ → Bool
falls_at_start s row p = (set s row).pedestrian p && not (is_started (moves s row) p)

would_lose_2 : falls_at_start starting_2 all_off 2 ≡ false
unfolding opened
would_lose_2 = refl
