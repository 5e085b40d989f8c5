-- What is Green while rings are committed: nothing in a crossing, and nothing in a ring that has a commitment. The law here
-- is the contract of a function in src/operation.rt, and proved there.
use Rattle.std.specs.Prelude.{◌≡◌, ℕ, true, false, Some, None}
use Rattle.tsb_step.specs.tsb_types.declared.interval.Interval.{Interval}
use Rattle.tsb_step.specs.tsb_types.Intervals.{is_green, in_service}
use Rattle.tsb_step.specs.tsb_plan.Plan.{Plan}
use Rattle.tsb_step.specs.tsb_ring.Rings as rings
use Rattle.tsb_step.specs.tsb_ring.Rings.{Ring, in_ring}
use Rattle.tsb_step.specs.State.{interval}
use Rattle.tsb_step.specs.Laws.{OfEveryRun}

-- of a plan, the intervals of phases, and the rings
pub record IsCalm (plan : Plan) (interval : ℕ → Interval) (s : rings.State) : Type 0 where
  -- while a crossing is under way no phase is Green
  pub crosses : (d : ℕ) → s.crossing ≡ Some d → (p : ℕ) → is_green (interval p) ≡ false
  -- a ring that is committed has no green phase
  pub bound : (r : Ring) (c p : ℕ) → s.commitment r ≡ Some c → in_ring plan r p ≡ true → is_green (interval p) ≡ false
  -- and outside a crossing the phase that it is committed to is not in service
  pub fresh : s.crossing ≡ None → (r : Ring) (c : ℕ) → s.commitment r ≡ Some c → in_service (interval c) ≡ false

-- So it is after every run.
abbrev pub CommittedRingsClear : Type 0
CommittedRingsClear = OfEveryRun (λ s. IsCalm s.plan (interval s) s.rings)
