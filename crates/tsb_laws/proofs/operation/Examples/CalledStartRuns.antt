-- A phase that starts as it is called, and a mistake that the law of calls and starts refuses.
use Rattle.std.proofs.Common.{◌≡◌, ℕ, Bool, false, ◌&&◌, List, [], ◌∷◌, Some, None, refl, sym, ◌∙◌}
use Rattle.tsb_step.specs.tsb_types.Sets.{all_off}
use Rattle.tsb_step.specs.tsb_types.declared.interval.Interval.TheVariants.{Red, Green}
use Rattle.tsb_step.specs.tsb_types.declared.row.Row.{Row}
use Rattle.tsb_step.specs.tsb_plan.Plan.{Plan}
use Rattle.tsb_step.specs.tsb_plan.Quad.{quad}
use Rattle.tsb_step.specs.tsb_ring.declared.want.Want.{Want}
use Rattle.tsb_step.specs.tsb_ring.declared.want.Want.TheVariants.{Go, Rest}
use Rattle.tsb_step.specs.tsb_ring.Rings.{Ring1, in_ring}
use Rattle.tsb_step.specs.tsb_ring.Wants.{fits, is_called_elsewhere, is_on_side, want_of, want_within}
use Rattle.tsb_step.specs.declared.inputs.Input.{Input}
use Rattle.tsb_step.specs.declared.inputs.Input.TheVariants.{Tick}
use Rattle.tsb_step.specs.State.{State, interval}
use Rattle.tsb_step.specs.Tick.{callable, service, rings_given}
use Rattle.tsb_step.specs.Runs.{replay, AreTaken}
use Rattle.tsb_step.specs.Laws.{IsConsistent}
use Rattle.tsb_step.proofs.Examples.Scenes.{opened}
use Rattle.tsb_laws.specs.Stretches.{StartsGreen}
use Rattle.tsb_laws.proofs.safety.Examples.PlanFits.{quad_consistent}

-- ## Phase 2 is recalled, and starts at power-up

idle : service (replay quad []) all_off ≡ None
unfolding opened
idle = refl

power_up_dark : (replay quad []).trip ≡ None
power_up_dark = refl

was_red : interval (replay quad []) 2 ≡ Red
unfolding opened
was_red = refl

starts_2 : interval (replay quad (Tick all_off ∷ [])) 2 ≡ Green
unfolding opened
starts_2 = refl

record Start (plan : Plan) (is : List Input) (row : Row) (q : ℕ) : Type 0 where
  consistent : IsConsistent plan
  taken : AreTaken plan is
  untripped : (replay plan is).trip ≡ None
  unserved : service (replay plan is) row ≡ None
  starts : StartsGreen plan is row q

a_called_start : Start quad [] all_off 2
a_called_start = record {
  consistent = quad_consistent;
  taken = tt;
  untripped = power_up_dark;
  unserved = idle;
  starts = record { was_not = λ h. (let bad : Red ≡ Green = sym was_red ∙ h in absurd cc); starts = starts_2 };
}

-- ## A ring that goes on to the next phase of its order, called or not

abbrev at_tick_1 : State
at_tick_1 = replay quad (Tick all_off ∷ [])

uncalled_1 : callable at_tick_1 all_off 1 ≡ false
unfolding opened
uncalled_1 = refl

rests : want_of quad at_tick_1.rings (rings_given at_tick_1 all_off) Ring1 ≡ Some Rest
unfolding opened
rests = refl

abbrev is_next : ℕ → Bool
is_next p = in_ring quad Ring1 p && is_on_side quad at_tick_1.rings.side p && fits quad at_tick_1.rings (rings_given at_tick_1 all_off) Ring1 None p

abbrev by_order : Want
by_order = want_within ((rings_given at_tick_1 all_off).sequence Ring1) (at_tick_1.rings.last Ring1) is_next (is_called_elsewhere quad at_tick_1.rings (rings_given at_tick_1 all_off))

would_go_to_1 : by_order ≡ Go 1
unfolding opened
would_go_to_1 = refl
