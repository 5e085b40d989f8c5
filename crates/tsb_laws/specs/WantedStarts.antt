-- When a phase starts that the preempt in service wants. The law here is the contract of a function in src/operation.rt,
-- and proved there.
use Rattle.std.specs.Prelude.{◌≡◌, ℕ, ◌≤◌, true, false, List, ◌∷◌, Some, None, ◌⊎◌}
use Rattle.tsb_step.specs.tsb_types.declared.interval.Interval.TheVariants.{Green}
use Rattle.tsb_step.specs.tsb_types.declared.row.Row.{Row}
use Rattle.tsb_step.specs.tsb_types.Intervals.{in_service}
use Rattle.tsb_step.specs.tsb_plan.Plan.{Plan, is_enabled, is_concurrent, side_of}
use Rattle.tsb_step.specs.tsb_ring.Rings.{Ring, in_ring}
use Rattle.tsb_step.specs.declared.inputs.Input.{Input}
use Rattle.tsb_step.specs.declared.inputs.Input.TheVariants.{Tick}
use Rattle.tsb_step.specs.State.{State, interval}
use Rattle.tsb_step.specs.Tick.{service, must_end, reverted}
use Rattle.tsb_step.specs.Runs.{replay, AreTaken}
use Rattle.tsb_step.specs.Laws.{IsConsistent}

-- in a tick: an enabled phase that the preempt in service wants, on the side that is served, whose red revert has passed,
-- and of whose ring none is in service; and no crossing of the barrier is under way
pub record MayStart (s : State) (row : Row) (r : Ring) (p : ℕ) : Type 0 where
  pub enabled : is_enabled s.plan p ≡ true
  pub wanted : must_end s row p ≡ false
  pub ringed : in_ring s.plan r p ≡ true
  pub idle : (q : ℕ) → in_ring s.plan r q ≡ true → in_service (interval s q) ≡ false
  pub outside : s.rings.crossing ≡ None
  pub beside : side_of s.plan p ≡ s.rings.side
  pub passed : reverted s p ≡ true

-- what keeps it from starting: a phase in service that it is not concurrent with, or a ring that is committed
pub data IsKeptBy (s : State) (p : ℕ) : Type 0 where
  a_phase : (q : ℕ) → in_service (interval s q) ≡ true → is_concurrent s.plan p q ≡ false → IsKeptBy s p
  a_commitment : (r : Ring) (c : ℕ) → s.rings.commitment r ≡ Some c → IsKeptBy s p

-- So it is in every run, while the controller has not tripped.
abbrev pub WantedPhasesStart : Type 0
WantedPhasesStart = (plan : Plan) (is : List Input) (row : Row) (n : ℕ) (r : Ring) (p : ℕ) → IsConsistent plan → plan.phase_count ≤ 16 → AreTaken plan is →
    (replay plan is).trip ≡ None → service (replay plan is) row ≡ Some n → MayStart (replay plan is) row r p →
    (interval (replay plan (Tick row ∷ is)) p ≡ Green) ⊎ IsKeptBy (replay plan is) p
