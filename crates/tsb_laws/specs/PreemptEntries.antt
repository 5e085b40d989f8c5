-- What enters under a preempt: what it wants, and what rings were committed to before. The law here is the contract of a
-- function in src/operation.rt, and proved there.
use Rattle.std.specs.Prelude.{◌≡◌, ℕ, false, List, ◌∷◌, Some, None, ◌⊎◌}
use Rattle.tsb_step.specs.tsb_types.declared.row.Row.{Row}
use Rattle.tsb_step.specs.tsb_plan.Plan.{Plan}
use Rattle.tsb_step.specs.tsb_ring.Rings.{Ring}
use Rattle.tsb_step.specs.declared.inputs.Input.{Input}
use Rattle.tsb_step.specs.declared.inputs.Input.TheVariants.{Tick}
use Rattle.tsb_step.specs.Tick.{service, must_end}
use Rattle.tsb_step.specs.Runs.{replay, AreTaken}
use Rattle.tsb_step.specs.Laws.{IsConsistent}
use Rattle.tsb_laws.specs.Stretches.{StartsGreen}

-- in a tick in which a preempt is in service a phase starts only where the preempt wants it, or where a ring was committed
-- to it before; and a ring is committed after the tick only to what the preempt wants, or to what it was before
pub record EntersByPreempt (plan : Plan) (is : List Input) (row : Row) (q : ℕ) : Type 0 where
  pub starts : StartsGreen plan is row q → (must_end (replay plan is) row q ≡ false) ⊎ ((r : Ring) × ((replay plan is).rings.commitment r ≡ Some q))
  pub commits : (r : Ring) → (replay plan (Tick row ∷ is)).rings.commitment r ≡ Some q →
      (must_end (replay plan is) row q ≡ false) ⊎ ((replay plan is).rings.commitment r ≡ Some q)

-- So it is in every run, while the controller has not tripped.
abbrev pub PreemptsLetInTheirOwn : Type 0
PreemptsLetInTheirOwn = (plan : Plan) (is : List Input) (row : Row) (n q : ℕ) → IsConsistent plan → AreTaken plan is →
    (replay plan is).trip ≡ None → service (replay plan is) row ≡ Some n → EntersByPreempt plan is row q
