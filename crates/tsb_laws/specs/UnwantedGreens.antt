-- How long a green lasts that the preempt in service does not want: until it is ready, and then while it waits for the
-- barrier. The law here is the contract of a function in src/operation.rt, and proved there.
use Rattle.std.specs.Prelude.{◌≡◌, ℕ, ◌≤◌, true, false, List, ◌∷◌, Some, None}
use Rattle.tsb_step.specs.tsb_types.declared.interval.Interval.TheVariants.{Green}
use Rattle.tsb_step.specs.tsb_types.declared.row.Row.{Row}
use Rattle.tsb_step.specs.tsb_plan.Plan.{Plan}
use Rattle.tsb_step.specs.tsb_ring.Rings.{Ring}
use Rattle.tsb_step.specs.declared.inputs.Input.{Input}
use Rattle.tsb_step.specs.declared.inputs.Input.TheVariants.{Tick}
use Rattle.tsb_step.specs.State.{State, interval}
use Rattle.tsb_step.specs.Tick.{service, must_end, ready}
use Rattle.tsb_step.specs.Runs.{replay, AreTaken}
use Rattle.tsb_step.specs.Laws.{IsConsistent}

-- in a tick, what a crossing of the barrier waits for: a ring that is committed, or a green that is not ready
pub data WaitsFor (s : State) (row : Row) : Type 0 where
  a_commitment : (r : Ring) (c : ℕ) → s.rings.commitment r ≡ Some c → WaitsFor s row
  a_green : (q : ℕ) → interval s q ≡ Green → ready s row q ≡ false → WaitsFor s row

-- in every run, while the controller has not tripped: a green is ready in a tick, the preempt in service does not want it,
-- and it stays Green; then it waits for the barrier
abbrev pub UnwantedGreensEnd : Type 0
UnwantedGreensEnd = (plan : Plan) (is : List Input) (row : Row) (n p : ℕ) → IsConsistent plan → plan.phase_count ≤ 16 → AreTaken plan is →
    (replay plan is).trip ≡ None → service (replay plan is) row ≡ Some n → must_end (replay plan is) row p ≡ true →
    ready (replay plan is) row p ≡ true → interval (replay plan is) p ≡ Green → interval (replay plan (Tick row ∷ is)) p ≡ Green →
    WaitsFor (replay plan is) row
