-- The force-off instant of an enabled phase comes in each cycle of the pattern that runs. Proves the clause `instants`
-- of `coordination_goes_on`.
use Rattle.std.proofs.Common.{◌≡◌, ℕ, ◌+◌, ◌%◌, ◌<◌, ◌≤◌, ◌==◌, Bool, true, false, if◌then◌else◌, List, Option, Some, None, refl, ap, arith, ◌∙◌}
use Rattle.std.proofs.Math.Nat.{mod-lt}
use Rattle.tsb_step.specs.tsb_plan.Plan.{Plan, is_enabled}
use Rattle.tsb_step.specs.tsb_objects.Instants.{offset_in_effect}
use Rattle.tsb_step.specs.tsb_plan.Parts.{is_used, cycle, offset}
use Rattle.tsb_step.proofs.tsb_objects.InstantLemmas.{offset-below}
use Rattle.tsb_step.specs.tsb_rules.Rules.{first_broken}
use Rattle.tsb_step.specs.tsb_rules.Consistent.{IsWhole}
use Rattle.tsb_step.specs.tsb_coord.Coordinated.{counter, local_in, instant_from, reference, instant_by, force_off, agree}
use Rattle.tsb_step.proofs.tsb_coord.LocalLemmas.{counter_moves_on}
use Rattle.tsb_step.proofs.tsb_coord.SpanLemmas.{met_within}
use Rattle.tsb_step.proofs.tsb_coord.WaitLemmas.{HasInstant, has_instant}
use Rattle.tsb_step.specs.declared.inputs.Input.{Input}
use Rattle.tsb_step.specs.State.{State}
use Rattle.tsb_step.specs.Signs.{IsInStep}
use Rattle.tsb_step.specs.Tick.{runs}
use Rattle.tsb_step.specs.Runs.{replay, AreTaken}
use Rattle.tsb_step.specs.Laws.{IsConsistent}
use Rattle.tsb_step.specs.Good.{IsGood, IsPatternNumber}
use Rattle.tsb_step.proofs.GoodLemmas.{good_run}
use Rattle.tsb_laws.specs.CoordinatedGreens.{ComesInCycle}
use Rattle.tsb_laws.proofs.operation.pattern.CoordinatedCallLemmas.{IsRunning, running_is, runs_whole}
use Rattle.tsb_laws.proofs.operation.pattern.InStepLemmas.{clocked_in, clocked_later, comes_as}

-- each enabled phase has an instant in a pattern that runs, and it is below the cycle
pub record HasOwnInstant (plan : Plan) (k p : ℕ) : Type 0 where
  pub instant : ℕ
  pub is : force_off plan (Some k) p ≡ Some instant
  pub below : instant < cycle plan k

own_instant : (plan : Plan) → first_broken plan ≡ None → (k p : ℕ) → IsWhole plan k → 1 ≤ k → k ≤ 16 → is_used plan k ≡ true → is_enabled plan p ≡ true →
    HasOwnInstant plan k p
unfolding force_off
own_instant plan none k p parts from to used on = go (is_enabled plan one.phase) (reference plan k) refl one.is
  where
    one : HasInstant plan k
    one = has_instant plan none k from to used

    below : offset plan k < cycle plan k
    below = parts.below

    go : (b : Bool) (o : Option ℕ) → reference plan k ≡ o → (if b then instant_by plan k o one.phase else None) ≡ Some one.instant → HasOwnInstant plan k p
    go false o e h = absurd cc
    go true None e h = absurd cc
    go true (Some c) e h = record { instant = instant_from plan k c p; is = rw (on, e) refl; below = mod-lt _ (omega (arith, below)) }

pub instant_now : (s : State) (k p : ℕ) → IsGood s → runs s ≡ Some k → is_enabled s.plan p ≡ true → HasOwnInstant s.plan k p
instant_now s k p good running on =
    let chosen : IsRunning s.plan s.pattern k = running_is s.plan s.pattern k running in
    let number : IsPatternNumber k = good.pattern k chosen.selected in
    own_instant s.plan good.plan.rules k p (runs_whole s k good running) number.from_one number.within chosen.used on

comes_in : (s : State) (k p : ℕ) → IsGood s → runs s ≡ Some k → IsInStep s → is_enabled s.plan p ≡ true → ComesInCycle s k p
comes_in s k p good running stepped on = go (met_within (cycle s.plan k) (counter s.plan k next) own.instant (mod-lt _ some) own.below)
  where
    next : ℕ
    next = clocked_in s (s.now + 1)

    parts : IsWhole s.plan k
    parts = runs_whole s k good running

    own : HasOwnInstant s.plan k p
    own = instant_now s k p good running on

    below : offset_in_effect s.plan k < cycle s.plan k
    below = offset-below s.plan k parts.below

    some : 0 < cycle s.plan k
    some = omega (arith, below)

    go : (j : ℕ) × ((j < cycle s.plan k) × (((counter s.plan k next + j) % cycle s.plan k == own.instant) ≡ true)) → ComesInCycle s k p
    go met =
        let less : met.0 < cycle s.plan k = met.1.0 in
        record {
          tick = s.now + 1 + met.0;
          later = omega arith;
          soon = omega (arith, less);
          at_instant = comes_as s (s.now + 1 + met.0) p stepped (omega arith)
              ∙ (ap (λ (t : ℕ). agree (local_in s.plan t (runs s)) (force_off s.plan (runs s) p)) (clocked_later s (s.now + 1) met.0)
              ∙ (ap (λ (o : Option ℕ). agree (local_in s.plan (next + met.0) o) (force_off s.plan o p)) running
              ∙ (ap (λ (o : Option ℕ). agree (Some (counter s.plan k (next + met.0))) o) own.is
              ∙ (ap (λ (x : ℕ). x == own.instant) (counter_moves_on s.plan k next met.0 below) ∙ met.1.1))));
        }

pub instants_come : (plan : Plan) (is : List Input) (k p : ℕ) → IsConsistent plan → AreTaken plan is → runs (replay plan is) ≡ Some k →
    IsInStep (replay plan is) → is_enabled (replay plan is).plan p ≡ true → ComesInCycle (replay plan is) k p
instants_come plan is k p ok taken running stepped on = comes_in (replay plan is) k p (good_run plan is ok taken) running stepped on
