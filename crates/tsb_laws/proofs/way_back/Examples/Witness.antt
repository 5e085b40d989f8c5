-- A run that meets the premises of the laws: on the built-in plan of two phases a tick, a transaction that is opened, a lamp
-- that a fault lights, and a tick of the controller that it trips.
use Rattle.std.proofs.Common.{◌≡◌, ℕ, ◌≤◌, nat_le, Bool, true, false, if◌then◌else◌, List, [], ◌∷◌, Some, is_some, refl, sym, ap₂, subst, arith, ◌∙◌}
use Rattle.std.specs.List.{list_all}
use Rattle.std.proofs.lemmas.Bool.{and_parts, leb-true, true≢false}
use Rattle.tsb_step.specs.tsb_cells.declared.timer.Timer.TheVariants.{Off, On}
use Rattle.tsb_step.specs.tsb_types.declared.lamp.Lamp.TheVariants as lamps
use Rattle.tsb_step.specs.tsb_types.declared.lamp.SignalColor.TheVariants as signals
use Rattle.tsb_step.specs.tsb_types.Sets.{all_off}
use Rattle.tsb_step.specs.tsb_plan.declared.object.Object.{Object}
use Rattle.tsb_step.specs.tsb_plan.Objects.{has_index, greatest}
use Rattle.tsb_step.specs.tsb_plan.Plan.{Plan, empty, is_same, with_value, with_values}
use Rattle.tsb_step.specs.tsb_plan.Two.{two, two_values, fits}
use Rattle.tsb_step.proofs.tsb_plan.TableLemmas.{order-injective}
use Rattle.tsb_step.proofs.tsb_plan.PlanLemmas.{same-parts}
use Rattle.tsb_step.specs.declared.inputs.Input.{Input}
use Rattle.tsb_step.specs.declared.inputs.Input.TheVariants.{Tick, Fault, Begin}
use Rattle.tsb_step.specs.Runs.{replay}
use Rattle.tsb_step.proofs.Examples.Scenes.{opened}
use Rattle.tsb_step.proofs.Examples.OtherRuns.{two_count, two_consistent}
use Rattle.tsb_laws.specs.Runs.{IsHeld, IsRun}
use Rattle.tsb_laws.specs.Timers.{timer_of, Change, Interval}
use Rattle.tsb_laws.proofs.safety.Examples.CoordinationRuns.{faster, faster_fits, faster_count, faster_sides, faster_consistent, selected_again, again_taken}

-- ## A plan that the program holds

record Fits (value : Object → ℕ → ℕ) : Type 0 where
  none : (o : Object) (i : ℕ) → has_index o i ≡ false → value o i ≡ 0
  bounded : (o : Object) (i : ℕ) → value o i ≤ greatest o

fits-with : (es : List (Object × ℕ × ℕ)) (base : Plan) → list_all fits es ≡ true → Fits base.value → Fits (with_values base es).value
fits-with [] base all ok = ok
fits-with (e ∷ es) base all ok =
    let both : (fits e ≡ true) × (list_all fits es ≡ true) = and_parts (fits e) (list_all fits es) all in
    let own : (has_index e.0 e.1 ≡ true) × (nat_le e.2 (greatest e.0) ≡ true) = and_parts (has_index e.0 e.1) (nat_le e.2 (greatest e.0)) both.0 in
    fits-with es (with_value base e.0 e.1 e.2) both.1 (record {
      none = λ o i out. none own.0 o i out (is_same e.0 e.1 o i) refl;
      bounded = λ o i. most own.1 o i (is_same e.0 e.1 o i) refl;
    })
  where
    none : has_index e.0 e.1 ≡ true → (o : Object) (i : ℕ) → has_index o i ≡ false → (b : Bool) → is_same e.0 e.1 o i ≡ b →
        (if b then e.2 else base.value o i) ≡ 0
    none has o i out true it =
        let same = same-parts e.0 o e.1 i it in
        absurd (true≢false (sym has ∙ ap₂ has_index (order-injective e.0 o same.0) same.1 ∙ out))
    none has o i out false it = ok.none o i out

    most : nat_le e.2 (greatest e.0) ≡ true → (o : Object) (i : ℕ) → (b : Bool) → is_same e.0 e.1 o i ≡ b → (if b then e.2 else base.value o i) ≤ greatest o
    most few o i true it = subst (λ (q : Object). e.2 ≤ greatest q) (order-injective e.0 o (same-parts e.0 o e.1 i it).0) (leb-true e.2 (greatest e.0) few)
    most few o i false it = ok.bounded o i

two-fits : Fits two.value
unfolding two
two-fits = fits-with two_values empty refl (record { none = λ o i out. refl; bounded = λ o i. omega arith })

two-sides : two.side_count ≡ 4
unfolding two
two-sides = refl

pub held : IsHeld two
held = record {
  consistent = two_consistent;
  phases = two_count.0;
  sides = two-sides;
  counts = two_count.1;
  bounded = two-fits.bounded;
}

-- ## A run

abbrev pub inputs : List Input
inputs = Tick all_off ∷ Fault (Some (lamps.Phase 4 signals.Green)) ∷ Begin 1 ∷ Tick all_off ∷ []

pub ran : IsRun two inputs
unfolding opened two
ran = record { plan_held = held; taken = ((((tt, refl), refl), refl), refl); typed = (tt, ((omega arith, omega arith), ((omega arith, omega arith), (tt, tt)))) }

-- phase 2 starts in the first tick; the lamp on phase 4 trips the controller
starts : ((replay two (Tick all_off ∷ [])).phases 2).timer ≡ On 0
unfolding opened two
starts = refl

trips : is_some (replay two inputs).trip ≡ true
unfolding opened two
trips = refl

-- so its timer has an entry in the record of that tick, and the change timer of detector 1, which runs on, has none
was_off : timer_of (Interval 2) (replay two []) ≡ Off
unfolding opened two
was_off = refl

runs_on : timer_of (Change 1) (replay two (Tick all_off ∷ [])) ≡ On 1
unfolding opened two
runs_on = refl

-- ## A run after which a local counter comes into step: it is 700 ticks ahead (`is_ahead` of CoordinationRuns)

pub comes_into_step : IsRun faster selected_again
comes_into_step = record {
  plan_held = record { consistent = faster_consistent; phases = faster_count.0; sides = faster_sides; counts = faster_count.1; bounded = faster_fits.bounded };
  taken = again_taken;
  typed = (tt, (tt, (tt, tt)));
}
