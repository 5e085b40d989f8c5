-- A run from power-up in which a phase may start that a preempt wants, and a mistake that the law of such phases refuses.
use Rattle.std.proofs.Common.{◌≡◌, ℕ, ◌≤◌, true, List, [], ◌∷◌, Some, None, refl, arith}
use Rattle.tsb_step.specs.tsb_types.Sets.{all_off}
use Rattle.tsb_step.specs.tsb_types.declared.interval.Interval.TheVariants.{Green}
use Rattle.tsb_step.specs.tsb_types.declared.row.Row.{Row}
use Rattle.tsb_step.specs.tsb_plan.declared.object.Object.{Object}
use Rattle.tsb_step.specs.tsb_plan.declared.object.Object.TheVariants.{PreemptDwellPhase}
use Rattle.tsb_step.specs.tsb_plan.Objects.{greatest}
use Rattle.tsb_step.specs.tsb_plan.Plan.{Plan, all_counts, with_values}
use Rattle.tsb_step.specs.tsb_plan.Quad.{quad}
use Rattle.tsb_step.specs.tsb_rules.Rules.{first_broken}
use Rattle.tsb_step.specs.tsb_ring.declared.want.Want.{Want}
use Rattle.tsb_step.specs.tsb_ring.declared.want.Want.TheVariants.{Go}
use Rattle.tsb_step.specs.tsb_ring.Rings.{Ring, Ring1}
use Rattle.tsb_step.specs.tsb_ring.Wants.{want_by_calls, want_of}
use Rattle.tsb_step.specs.declared.inputs.Input.{Input}
use Rattle.tsb_step.specs.declared.inputs.Input.TheVariants.{Tick, Switch}
use Rattle.tsb_step.specs.State.{interval}
use Rattle.tsb_step.specs.Tick.{service, rings_given}
use Rattle.tsb_step.specs.Runs.{replay, AreTaken}
use Rattle.tsb_step.specs.Laws.{IsConsistent}
use Rattle.tsb_step.proofs.Examples.Scenes.{opened}
use Rattle.tsb_laws.specs.WantedStarts.{MayStart}
use Rattle.tsb_laws.proofs.safety.Examples.PlanFits.{Fits, values_fit, quad_fits, consistent}

-- ## Preempt 1 brings 1 and 6, on the side that is served at power-up, while 2 and 6 are on recall

abbrev near_values : List (Object × ℕ × ℕ)
near_values = (PreemptDwellPhase, 1, 33) ∷ []

unfoldable near : Plan
near = with_values quad near_values

near_fits : Fits greatest near.value
unfolding near
near_fits = values_fit greatest near_values quad refl (quad_fits greatest refl refl)

near_count : (near.phase_count ≡ 16) × (near.counts ≡ all_counts)
unfolding quad near
near_count = (refl, refl)

breaks_none : first_broken near ≡ None
unfolding opened near
breaks_none = refl

abbrev switched : List Input
switched = Switch 1 true ∷ []

taken : AreTaken near switched
unfolding opened near
taken = (tt, refl)

dark : (replay near switched).trip ≡ None
unfolding opened near
dark = refl

serves_1 : service (replay near switched) all_off ≡ Some 1
unfolding opened near
serves_1 = refl

may_start_1 : MayStart (replay near switched) all_off Ring1 1
unfolding opened near
may_start_1 = record { enabled = refl; wanted = refl; ringed = refl; idle = λ q own. refl; outside = refl; beside = refl; passed = refl }

starts_1 : interval (replay near (Tick all_off ∷ switched)) 1 ≡ Green
unfolding opened near
starts_1 = refl

record Start (plan : Plan) (is : List Input) (row : Row) (n : ℕ) (r : Ring) (p : ℕ) : Type 0 where
  consistent : IsConsistent plan
  few : plan.phase_count ≤ 16
  taken : AreTaken plan is
  untripped : (replay plan is).trip ≡ None
  served : service (replay plan is) row ≡ Some n
  may_start : MayStart (replay plan is) row r p

a_start : Start near switched all_off 1 Ring1 1
a_start = record {
  consistent = consistent greatest near near_count breaks_none near_fits;
  few = (let count = near_count.0 in omega (arith, count));
  taken = taken;
  untripped = dark;
  served = serves_1;
  may_start = may_start_1;
}

-- ## A preempt in whose service rings go on by calls: 2 is on recall

wants_1 : want_of near (replay near switched).rings (rings_given (replay near switched) all_off) Ring1 ≡ Some (Go 1)
unfolding opened near
wants_1 = refl

abbrev by_calls : Want
by_calls = want_by_calls near (replay near switched).rings (rings_given (replay near switched) all_off) Ring1 None

would_go_to_2 : by_calls ≡ Go 2
unfolding opened near
would_go_to_2 = refl
