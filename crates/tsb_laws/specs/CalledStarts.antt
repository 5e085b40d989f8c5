-- What enters where no preempt is in service: what is called, what dual entry lets in, and what rings were committed to
-- before. The law here is the contract of a function in src/operation.rt, and proved there.
use Rattle.std.specs.Prelude.{◌≡◌, ℕ, true, List, ◌∷◌, Some, None, ◌⊎◌}
use Rattle.tsb_step.specs.tsb_types.declared.row.Row.{Row}
use Rattle.tsb_step.specs.tsb_plan.Plan.{Plan, has_dual_entry}
use Rattle.tsb_step.specs.tsb_ring.Rings.{Ring}
use Rattle.tsb_step.specs.declared.inputs.Input.{Input}
use Rattle.tsb_step.specs.declared.inputs.Input.TheVariants.{Tick}
use Rattle.tsb_step.specs.Tick.{callable, service}
use Rattle.tsb_step.specs.Runs.{replay, AreTaken}
use Rattle.tsb_step.specs.Laws.{IsConsistent}
use Rattle.tsb_laws.specs.Stretches.{StartsGreen}

-- in a tick a phase starts only where it is callable, or where a ring was committed to it before; and a ring is committed
-- after the tick only to what is callable or has dual entry, or to what it was before
pub record EntersByCall (plan : Plan) (is : List Input) (row : Row) (q : ℕ) : Type 0 where
  pub starts : StartsGreen plan is row q → (callable (replay plan is) row q ≡ true) ⊎ ((r : Ring) × ((replay plan is).rings.commitment r ≡ Some q))
  pub commits : (r : Ring) → (replay plan (Tick row ∷ is)).rings.commitment r ≡ Some q →
      ((callable (replay plan is) row q ≡ true) ⊎ (has_dual_entry (replay plan is).plan q ≡ true)) ⊎ ((replay plan is).rings.commitment r ≡ Some q)

-- So it is in every run, in a tick in which no preempt is in service, while the controller has not tripped.
abbrev pub UncalledPhasesStay : Type 0
UncalledPhasesStay = (plan : Plan) (is : List Input) (row : Row) (q : ℕ) → IsConsistent plan → AreTaken plan is →
    (replay plan is).trip ≡ None → service (replay plan is) row ≡ None → EntersByCall plan is row q
