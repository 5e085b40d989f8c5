-- A run from power-up in which a preempt lets in what it wants, and a mistake that the law of entries refuses.
use Rattle.std.proofs.Common.{◌≡◌, ℕ, true, List, [], ◌∷◌, Some, None, refl, sym, ◌∙◌}
use Rattle.tsb_step.specs.tsb_types.Sets.{all_off}
use Rattle.tsb_step.specs.tsb_types.declared.interval.Interval.TheVariants.{Red, Green}
use Rattle.tsb_step.specs.tsb_types.declared.row.Row.{Row}
use Rattle.tsb_step.specs.tsb_plan.Plan.{Plan}
use Rattle.tsb_step.specs.tsb_plan.Quad.{quad}
use Rattle.tsb_step.specs.tsb_ring.declared.want.Want.{Want}
use Rattle.tsb_step.specs.tsb_ring.declared.want.Want.TheVariants.{Go, Rest}
use Rattle.tsb_step.specs.tsb_ring.Rings.{Ring1}
use Rattle.tsb_step.specs.tsb_ring.Wants.{want_by_calls, want_of}
use Rattle.tsb_step.specs.declared.inputs.Input.{Input}
use Rattle.tsb_step.specs.declared.inputs.Input.TheVariants.{Tick, Switch}
use Rattle.tsb_step.specs.State.{State, interval}
use Rattle.tsb_step.specs.Tick.{service, rings_given}
use Rattle.tsb_step.specs.Runs.{replay, AreTaken}
use Rattle.tsb_step.specs.Laws.{IsConsistent}
use Rattle.tsb_step.proofs.Examples.Scenes.{opened, called, dwelling}
use Rattle.tsb_laws.specs.Stretches.{StartsGreen}
use Rattle.tsb_laws.proofs.safety.Examples.PlanFits.{quad_consistent}

-- ## Preempt 1 is switched on at power-up, and brings 3 and 8

abbrev switched : List Input
switched = Tick all_off ∷ Switch 1 true ∷ []

taken : AreTaken quad switched
unfolding opened
taken = ((tt, refl), refl)

dark : (replay quad switched).trip ≡ None
unfolding opened
dark = refl

serves_1 : service (replay quad switched) all_off ≡ Some 1
unfolding opened
serves_1 = refl

was_red : interval (replay quad switched) 3 ≡ Red
unfolding opened
was_red = refl

starts_3 : interval (replay quad (Tick all_off ∷ switched)) 3 ≡ Green
unfolding opened
starts_3 = refl

record Entry (plan : Plan) (is : List Input) (row : Row) (n q : ℕ) : Type 0 where
  consistent : IsConsistent plan
  taken : AreTaken plan is
  untripped : (replay plan is).trip ≡ None
  served : service (replay plan is) row ≡ Some n
  starts : StartsGreen plan is row q

an_entry : Entry quad switched all_off 1 3
an_entry = record {
  consistent = quad_consistent;
  taken = taken;
  untripped = dark;
  served = serves_1;
  starts = record { was_not = λ h. (let bad : Red ≡ Green = sym was_red ∙ h in absurd cc); starts = starts_3 };
}

-- ## A preempt in whose service rings go on by calls

-- preempt 1 dwells in 3 and 8, and 4 is called
abbrev called_4 : State
called_4 = record (dwelling 9) { memories = called (4 ∷ []) }

rests : want_of quad called_4.rings (rings_given called_4 all_off) Ring1 ≡ Some Rest
unfolding opened
rests = refl

abbrev by_calls : Want
by_calls = want_by_calls quad called_4.rings (rings_given called_4 all_off) Ring1 None

would_go_to_4 : by_calls ≡ Go 4
unfolding opened
would_go_to_4 = refl
