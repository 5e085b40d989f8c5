-- A run from power-up that meets all premises of the laws of yellows: the green that is forced off at its instant is Yellow for 38
-- ticks, and in the next its head turns red.
use Rattle.std.proofs.Common.{◌≡◌, ◌≢◌, ℕ, ◌+◌, ◌≤◌, true, false, List, ◌∷◌, ◌++◌, None, is_some, refl, sym, ap, arith, ◌∙◌}
use Rattle.tsb_step.specs.tsb_types.declared.interval.Interval.TheVariants.{Yellow, RedClear}
use Rattle.tsb_step.specs.tsb_types.declared.lamp.Aspect.TheVariants as aspects
use Rattle.tsb_step.specs.tsb_types.declared.row.Row.{Row}
use Rattle.tsb_step.specs.tsb_plan.Plan.{Plan, is_enabled, yellow_change}
use Rattle.tsb_step.specs.declared.inputs.Input.{Input}
use Rattle.tsb_step.specs.declared.inputs.Input.TheVariants.{Tick}
use Rattle.tsb_step.specs.State.{State, interval}
use Rattle.tsb_step.specs.Signs.{display}
use Rattle.tsb_step.specs.Runs.{replay, AreTaken}
use Rattle.tsb_step.specs.Laws.{IsConsistent}
use Rattle.tsb_step.specs.ClearanceLaws.{ClearsInTime}
use Rattle.tsb_step.proofs.ClearLemmas.{clears_in_time}
use Rattle.tsb_step.proofs.GoodLemmas.{good_run}
use Rattle.tsb_step.proofs.Examples.Scenes.{opened, vehicle}
use Rattle.tsb_laws.proofs.safety.Examples.TickRuns.{ticks, after_same, plan_then, all_taken, dark_then}
use Rattle.tsb_laws.proofs.safety.Examples.CoordinationRuns.{early, early_consistent, selected, selected_taken, selected_unlit, now, is_on, clears_in_48, ticked_1, ends_now}

clears : ClearsInTime (replay early selected) (λ k. vehicle 1) 2
clears = clears_in_time (replay early selected) (λ k. vehicle 1) 2 (good_run early selected early_consistent selected_taken) ends_now

lasts_38 : yellow_change now.plan 2 ≡ 38
unfolding opened early
lasts_38 = refl

abbrev yellow : List Input
yellow = ticks (vehicle 1) 38 ++ selected

is_yellow_now : interval (replay early yellow) 2 ≡ Yellow
is_yellow_now =
    ap (λ (s : State). interval s 2) (sym (after_same early (vehicle 1) selected 38)) ∙ clears.yellow 37 (let time = lasts_38 in omega (arith, time))

is_cleared_then : interval (replay early (Tick (vehicle 1) ∷ yellow)) 2 ≡ RedClear
is_cleared_then =
    ap (λ (s : State). interval s 2) (sym (after_same early (vehicle 1) selected 39))
    ∙ clears.red_clear 38 (let time = lasts_38 in omega (arith, time)) (let all = clears_in_48 in omega (arith, all))

-- ## What its head shows

head_in_yellow : (s : State) (p : ℕ) → is_enabled s.plan p ≡ true → s.trip ≡ None → interval s p ≡ Yellow → (display s).vehicle p ≡ aspects.Yellow
unfolding display
head_in_yellow s p on dark e = let untripped : is_some s.trip ≡ false = ap is_some dark in rw (untripped, on, e) refl

head_in_red_clear : (s : State) (p : ℕ) → is_enabled s.plan p ≡ true → s.trip ≡ None → interval s p ≡ RedClear → (display s).vehicle p ≡ aspects.Red
unfolding display
head_in_red_clear s p on dark e = let untripped : is_some s.trip ≡ false = ap is_some dark in rw (untripped, on, e) refl

on_then : (n : ℕ) → is_enabled (replay early (ticks (vehicle 1) n ++ selected)).plan 2 ≡ true
on_then n = ap (λ (x : Plan). is_enabled x 2) (plan_then early (vehicle 1) selected n) ∙ is_on

untripped : (n : ℕ) → n ≤ 500 → (replay early (ticks (vehicle 1) n ++ selected)).trip ≡ None
untripped n few = dark_then early (vehicle 1) selected early_consistent selected_taken selected_unlit n (let at = ticked_1 in omega (arith, at, few))

shows_yellow : (display (replay early yellow)).vehicle 2 ≡ aspects.Yellow
shows_yellow = head_in_yellow (replay early yellow) 2 (on_then 38) (untripped 38 (omega arith)) is_yellow_now

shows_red : (display (replay early (Tick (vehicle 1) ∷ yellow))).vehicle 2 ≡ aspects.Red
shows_red = head_in_red_clear (replay early (Tick (vehicle 1) ∷ yellow)) 2 (on_then 39) (untripped 39 (omega arith)) is_cleared_then

-- ## Phases clear in yellow, and what a tick ends has held

record Clearance (plan : Plan) (is : List Input) (row : Row) (p : ℕ) : Type 0 where
  consistent : IsConsistent plan
  taken : AreTaken plan is
  untripped : (replay plan is).trip ≡ None
  head : (display (replay plan is)).vehicle p ≢ aspects.Red
  head_then : (display (replay plan (Tick row ∷ is))).vehicle p ≡ aspects.Red
  was : interval (replay plan is) p ≡ Yellow
  ends : interval (replay plan (Tick row ∷ is)) p ≢ Yellow

a_clearance : Clearance early yellow (vehicle 1) 2
a_clearance = record {
  consistent = early_consistent;
  taken = all_taken early (vehicle 1) selected 38 selected_taken (let at = ticked_1 in omega (arith, at));
  untripped = untripped 38 (omega arith);
  head = λ h. (let bad : aspects.Yellow ≡ aspects.Red = sym shows_yellow ∙ h in absurd cc);
  head_then = shows_red;
  was = is_yellow_now;
  ends = λ h. (let bad : RedClear ≡ Yellow = sym is_cleared_then ∙ h in absurd cc);
}
