-- A run from power-up that meets the premises of the law of force-offs that are shown: the offset is such that pattern 1 begins
-- 19 ticks before the instant of 2. And a mistake that the law refuses.
use Rattle.std.proofs.Common.{◌≡◌, ℕ, ◌+◌, true, false, List, [], ◌∷◌, ◌++◌, Option, Some, None, refl, sym, ap, ap₂, arith, ◌∙◌}
use Rattle.tsb_step.specs.tsb_types.Sets.{all_off}
use Rattle.tsb_step.specs.tsb_plan.declared.object.Object.{Object}
use Rattle.tsb_step.specs.tsb_plan.declared.object.Object.TheVariants.{PatternOffsetTime}
use Rattle.tsb_step.specs.tsb_plan.Objects.{greatest}
use Rattle.tsb_step.specs.tsb_plan.Parts.{cycle}
use Rattle.tsb_step.specs.tsb_objects.Instants.{offset_in_effect}
use Rattle.tsb_step.specs.tsb_plan.Plan.{Plan, all_counts, with_values}
use Rattle.tsb_step.specs.tsb_plan.Quad.{quad}
use Rattle.tsb_step.specs.tsb_rules.Rules.{first_broken}
use Rattle.tsb_step.specs.tsb_coord.declared.correction.Correction.{Correction}
use Rattle.tsb_step.specs.tsb_coord.Coordinated.{force_off}
use Rattle.tsb_step.specs.tsb_ring.Rings.{Ring1}
use Rattle.tsb_step.specs.declared.inputs.Input.{Input}
use Rattle.tsb_step.specs.declared.inputs.Input.TheVariants.{Tick, Pattern}
use Rattle.tsb_step.specs.State.{State}
use Rattle.tsb_step.specs.Signs.{IsInStep}
use Rattle.tsb_step.specs.Status.{status, until_instant}
use Rattle.tsb_step.specs.Tick.{runs}
use Rattle.tsb_step.specs.Waits.{phases_again, served}
use Rattle.tsb_step.specs.Runs.{replay, AreTaken}
use Rattle.tsb_step.specs.Laws.{IsConsistent}
use Rattle.tsb_step.proofs.Examples.Scenes.{opened}
use Rattle.tsb_laws.specs.TimesLeft.{IsShown, is_at_instant, StaysInStep}
use Rattle.tsb_laws.proofs.safety.Examples.PlanFits.{Fits, values_fit, quad_fits, consistent}
use Rattle.tsb_laws.proofs.safety.Examples.TickRuns.{ticks, now_then, plan_then, all_taken, correction_then}

abbrev near_values : List (Object × ℕ × ℕ)
near_values = (PatternOffsetTime, 1, 6) ∷ []

unfoldable near : Plan
near = with_values quad near_values

near_fits : Fits greatest near.value
unfolding near
near_fits = values_fit greatest near_values quad refl (quad_fits greatest refl refl)

near_count : (near.phase_count ≡ 16) × (near.counts ≡ all_counts)
unfolding quad near
near_count = (refl, refl)

breaks_none : first_broken near ≡ None
unfolding opened near
breaks_none = refl

near_consistent : IsConsistent near
near_consistent = consistent greatest near near_count breaks_none near_fits

abbrev started : List Input
started = Tick all_off ∷ Pattern 1 ∷ []

started_taken : AreTaken near started
unfolding opened near
started_taken = ((tt, refl), refl)

started_at : (replay near started).now ≡ 1
unfolding opened near
started_at = refl

-- the phase in service in ring 1, and what is left until its instant
abbrev instant_shown : State → Option ℕ × Option ℕ
instant_shown s = (((status s).ring Ring1).phase, ((status s).ring Ring1).force_off_in)

at_start : instant_shown (replay near started) ≡ (Some 2, Some 19)
unfolding opened near status served phases_again
at_start = refl

runs_1 : runs (replay near started) ≡ Some 1
unfolding opened near
runs_1 = refl

runs_1_still : runs (replay near (ticks all_off 19 ++ started)) ≡ Some 1
unfolding opened near
runs_1_still = refl

in_step : IsInStep (replay near started)
unfolding opened near
in_step = refl

in_step_still : IsInStep (replay near (ticks all_off 19 ++ started))
unfolding opened near
in_step_still = refl

record ForceOffShown (base later : List Input) (p n j : ℕ) : Type 0 where
  consistent : IsConsistent near
  taken : AreTaken near (later ++ base)
  left : IsShown (replay near base) Ring1 p (λ x. x.force_off_in) n
  stays : StaysInStep p (replay near base) (replay near (later ++ base))
  clock : (replay near (later ++ base)).now ≡ (replay near base).now + j

a_force_off : ForceOffShown started (ticks all_off 19) 2 19 19
a_force_off = record {
  consistent = near_consistent;
  taken = all_taken near all_off started 19 started_taken (let at = started_at in omega (arith, at));
  left = record { phase = ap (λ (x : Option ℕ × Option ℕ). x.0) at_start; left = ap (λ (x : Option ℕ × Option ℕ). x.1) at_start };
  stays = record {
    in_step = in_step;
    still = in_step_still;
    same_pattern = runs_1_still ∙ sym runs_1;
    same_cycle = λ m h. ap (λ (x : Plan). cycle x m) (plan_then near all_off started 19);
    same_offset = λ m h. ap (λ (x : Plan). offset_in_effect x m) (plan_then near all_off started 19);
    same_midnight = ap (λ (c : Correction). c.midnight) (correction_then near all_off started 19);
    same_instant = ap₂ (λ (x : Plan) (o : Option ℕ). force_off x o 2) (plan_then near all_off started 19) (runs_1_still ∙ sym runs_1);
  };
  clock = now_then near all_off started 19;
}

there_at_19 : is_at_instant 2 (replay near (ticks all_off 19 ++ started)) ≡ true
unfolding opened near
there_at_19 = refl

not_there_at_18 : is_at_instant 2 (replay near (ticks all_off 18 ++ started)) ≡ false
unfolding opened near
not_there_at_18 = refl

-- a mistake: it is counted from local zero
would_show_760 : until_instant (cycle (replay near started).plan 1) 0 760 ≡ 760
unfolding opened near
would_show_760 = refl
