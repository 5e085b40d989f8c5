-- A run from power-up that meets all premises of the laws of lit heads and of red revert: preempt 2 wants 6 alone, so that the green
-- of 2 ends with no commitment; preempt 1 wants 2 again, which waits for its red revert.
use Rattle.std.proofs.Common.{◌≡◌, ◌≢◌, ℕ, ◌≤◌, nat_le, Bool, true, false, List, [], ◌∷◌, ◌++◌, None, refl, sym, ap, arith, ◌∙◌}
use Rattle.tsb_step.specs.tsb_cells.declared.timer.Timer.{Timer}
use Rattle.tsb_step.specs.tsb_cells.declared.timer.Timer.TheVariants.{Off, On}
use Rattle.tsb_step.specs.tsb_types.Sets.{all_off}
use Rattle.tsb_step.specs.tsb_types.declared.interval.Interval.{Interval}
use Rattle.tsb_step.specs.tsb_types.declared.interval.Interval.TheVariants.{Red, Green, Yellow}
use Rattle.tsb_step.specs.tsb_types.declared.lamp.Aspect.{Aspect}
use Rattle.tsb_step.specs.tsb_types.declared.lamp.Aspect.TheVariants as aspects
use Rattle.tsb_step.specs.tsb_types.declared.row.Row.{Row}
use Rattle.tsb_step.specs.tsb_plan.declared.object.Object.{Object}
use Rattle.tsb_step.specs.tsb_plan.declared.object.Object.TheVariants.{PhaseRedClear, PreemptMinimumGreen, PreemptDwellPhase}
use Rattle.tsb_step.specs.tsb_plan.Objects.{greatest}
use Rattle.tsb_step.specs.tsb_plan.Parts.{is_minus_green_yellow}
use Rattle.tsb_step.specs.tsb_plan.Plan.{Plan, all_counts, red_revert, with_values}
use Rattle.tsb_step.specs.tsb_plan.Quad.{quad}
use Rattle.tsb_step.specs.tsb_rules.Rules.{first_broken}
use Rattle.tsb_step.specs.tsb_heads.Monitoring.{gives_way}
use Rattle.tsb_step.specs.tsb_ring.Moves.{is_started}
use Rattle.tsb_step.specs.declared.inputs.Input.{Input}
use Rattle.tsb_step.specs.declared.inputs.Input.TheVariants.{Tick, Switch}
use Rattle.tsb_step.specs.State.{State, interval}
use Rattle.tsb_step.specs.Tick.{moves}
use Rattle.tsb_step.specs.Signs.{display}
use Rattle.tsb_step.specs.Step.{verdict}
use Rattle.tsb_step.specs.Runs.{replay, AreTaken}
use Rattle.tsb_step.specs.Laws.{IsConsistent, is_unlit}
use Rattle.tsb_step.proofs.Examples.Scenes.{opened}
use Rattle.tsb_laws.proofs.safety.Examples.PlanFits.{Fits, values_fit, quad_fits, consistent}
use Rattle.tsb_laws.specs.RedReverts.{StartsAgain}
use Rattle.tsb_laws.proofs.safety.Examples.TickRuns.{ticks, plan_then, all_taken, dark_then, none_trips}

abbrev again_values : List (Object × ℕ × ℕ)
again_values = (PhaseRedClear, 2, 0) ∷ (PreemptMinimumGreen, 2, 0) ∷ (PreemptDwellPhase, 2, 32) ∷ (PreemptDwellPhase, 1, 34) ∷ []

unfoldable pub again : Plan
again = with_values quad again_values

again_fits : Fits greatest again.value
unfolding again
again_fits = values_fit greatest again_values quad refl (quad_fits greatest refl refl)

again_count : (again.phase_count ≡ 16) × (again.counts ≡ all_counts)
unfolding quad again
again_count = (refl, refl)

breaks_none : first_broken again ≡ None
unfolding opened again
breaks_none = refl

pub again_consistent : IsConsistent again
again_consistent = consistent greatest again again_count breaks_none again_fits

-- the green of 2 ends in the second tick
abbrev pub ended : List Input
ended = Switch 1 true ∷ Tick all_off ∷ Switch 2 true ∷ Tick all_off ∷ []

pub ended_taken : AreTaken again ended
unfolding opened again
ended_taken = ((((tt, refl), refl), refl), refl)

ended_unlit : is_unlit again ended ≡ true
ended_unlit = refl

pub ticked_2 : (replay again ended).now ≡ 2
unfolding opened again
ticked_2 = refl

taken_then : (n : ℕ) → n ≤ 500 → AreTaken again (ticks all_off n ++ ended)
taken_then n few = all_taken again all_off ended n ended_taken (let at = ticked_2 in omega (arith, at, few))

untripped : (n : ℕ) → n ≤ 500 → (replay again (ticks all_off n ++ ended)).trip ≡ None
untripped n few = dark_then again all_off ended again_consistent ended_taken ended_unlit n (let at = ticked_2 in omega (arith, at, few))

-- ## Overlaps clear in yellow: 29 ticks later overlap 1, of 1 and 2, shows yellow, and in the next it turns red

record OverlapClearance (plan : Plan) (is : List Input) (row : Row) (o : ℕ) : Type 0 where
  consistent : IsConsistent plan
  taken : AreTaken plan is
  untripped : (replay plan is).trip ≡ None
  normal : is_minus_green_yellow (replay plan is).plan o ≡ false
  head : (display (replay plan is)).overlap o ≢ aspects.Red
  head_then : (display (replay plan (Tick row ∷ is))).overlap o ≡ aspects.Red

is_normal_at_first : is_minus_green_yellow (replay again ended).plan 1 ≡ false
unfolding opened again
is_normal_at_first = refl

is_normal : is_minus_green_yellow (replay again (ticks all_off 29 ++ ended)).plan 1 ≡ false
is_normal = ap (λ (x : Plan). is_minus_green_yellow x 1) (plan_then again all_off ended 29) ∙ is_normal_at_first

-- the heads of 2 and of overlap 1
abbrev heads : State → Aspect × Aspect
heads s = ((display s).vehicle 2, (display s).overlap 1)

show_yellow : heads (replay again (ticks all_off 29 ++ ended)) ≡ (aspects.Yellow, aspects.Yellow)
unfolding opened again
show_yellow = refl

show_red : heads (replay again (ticks all_off 30 ++ ended)) ≡ (aspects.Red, aspects.Red)
unfolding opened again
show_red = refl

shows_yellow : (display (replay again (ticks all_off 29 ++ ended))).overlap 1 ≡ aspects.Yellow
shows_yellow = ap (λ (x : Aspect × Aspect). x.1) show_yellow

shows_red : (display (replay again (ticks all_off 30 ++ ended))).overlap 1 ≡ aspects.Red
shows_red = ap (λ (x : Aspect × Aspect). x.1) show_red

an_overlap : OverlapClearance again (ticks all_off 29 ++ ended) all_off 1
an_overlap = record {
  consistent = again_consistent;
  taken = taken_then 29 (omega arith);
  untripped = untripped 29 (omega arith);
  normal = is_normal;
  head = λ h. (let bad : aspects.Yellow ≡ aspects.Red = sym shows_yellow ∙ h in absurd cc);
  head_then = shows_red;
}

-- ## Starts after red revert: 2 starts as its red revert of 20 ticks has passed

record RedRevert (plan : Plan) (is : List Input) (row : Row) (p : ℕ) : Type 0 where
  consistent : IsConsistent plan
  taken : AreTaken plan is
  untripped : (replay plan is).trip ≡ None
  starts : is_started (moves (replay plan is) row) p ≡ true

-- the red revert timer and the interval of 2, and whether it starts
abbrev waits : State → Timer × Interval × Bool
waits s = ((s.phases 2).red_revert, interval s 2, is_started (moves s all_off) 2)

at_its_start : waits (replay again (ticks all_off 49 ++ ended)) ≡ (On 19, Red, true)
unfolding opened again
at_its_start = refl

has_waited : ((replay again (ticks all_off 49 ++ ended)).phases 2).red_revert ≡ On 19
has_waited = ap (λ (x : Timer × Interval × Bool). x.0) at_its_start

starts_2 : is_started (moves (replay again (ticks all_off 49 ++ ended)) all_off) 2 ≡ true
starts_2 = ap (λ (x : Timer × Interval × Bool). x.2) at_its_start

a_red_revert : RedRevert again (ticks all_off 49 ++ ended) all_off 2
a_red_revert = record { consistent = again_consistent; taken = taken_then 49 (omega arith); untripped = untripped 49 (omega arith); starts = starts_2 }

-- ## Red reverts hold: 2 was Yellow as its green ended, and starts as its red revert of 20 ticks has passed

was_yellow : interval (replay again ended) 2 ≡ Yellow
unfolding opened again
was_yellow = refl

was_red : interval (replay again (ticks all_off 49 ++ ended)) 2 ≡ Red
was_red = ap (λ (x : Timer × Interval × Bool). x.1) at_its_start

is_green_then : interval (replay again (ticks all_off 50 ++ ended)) 2 ≡ Green
unfolding opened again
is_green_then = refl

starts_again : StartsAgain again ended (ticks all_off 49) all_off 2
starts_again = record {
  was_yellow = was_yellow;
  untripped = none_trips again all_off ended again_consistent ended_taken ended_unlit 49 (let at = ticked_2 in omega (arith, at));
  started = record { was_not = λ h. (let bad : Red ≡ Green = sym was_red ∙ h in absurd cc); starts = is_green_then };
}

-- a definition whose red revert timer never starts: it stays Off for ever
abbrev never_reverts : State → State
never_reverts s = record s { phases = λ p. record (s.phases p) { red_revert = Off } }

-- five ticks after its yellow 2 waits, and would start
waits_2 : is_started (moves (replay again (ticks all_off 34 ++ ended)) all_off) 2 ≡ false
unfolding opened again
waits_2 = refl

is_too_early : nat_le (red_revert again 2) 5 ≡ false
unfolding opened again
is_too_early = refl

would_start_2 : is_started (moves (never_reverts (replay again (ticks all_off 34 ++ ended))) all_off) 2 ≡ true
unfolding opened again
would_start_2 = refl

-- ## Lit heads clear in yellow: in the tick after 29 more 2 turns red, and overlap 1 with it

record LitPhase (plan : Plan) (is : List Input) (i : Input) (p : ℕ) : Type 0 where
  consistent : IsConsistent plan
  taken : AreTaken plan is
  untripped : (replay plan is).trip ≡ None
  allowed : verdict (replay plan is) i ≡ None
  untripped_then : (replay plan (i ∷ is)).trip ≡ None
  lit : gives_way ((display (replay plan is)).vehicle p) ≡ true
  red_then : (display (replay plan (i ∷ is))).vehicle p ≡ aspects.Red

shows_yellow_2 : (display (replay again (ticks all_off 29 ++ ended))).vehicle 2 ≡ aspects.Yellow
shows_yellow_2 = ap (λ (x : Aspect × Aspect). x.0) show_yellow

shows_red_2 : (display (replay again (ticks all_off 30 ++ ended))).vehicle 2 ≡ aspects.Red
shows_red_2 = ap (λ (x : Aspect × Aspect). x.0) show_red

a_phase : LitPhase again (ticks all_off 29 ++ ended) (Tick all_off) 2
a_phase = record {
  consistent = again_consistent;
  taken = taken_then 29 (omega arith);
  untripped = untripped 29 (omega arith);
  allowed = (taken_then 30 (omega arith)).1;
  untripped_then = untripped 30 (omega arith);
  lit = ap gives_way shows_yellow_2;
  red_then = shows_red_2;
}

record LitOverlap (plan : Plan) (is : List Input) (i : Input) (o : ℕ) : Type 0 where
  consistent : IsConsistent plan
  taken : AreTaken plan is
  untripped : (replay plan is).trip ≡ None
  allowed : verdict (replay plan is) i ≡ None
  untripped_then : (replay plan (i ∷ is)).trip ≡ None
  normal : is_minus_green_yellow (replay plan is).plan o ≡ false
  lit : gives_way ((display (replay plan is)).overlap o) ≡ true
  red_then : (display (replay plan (i ∷ is))).overlap o ≡ aspects.Red

a_lit_overlap : LitOverlap again (ticks all_off 29 ++ ended) (Tick all_off) 1
a_lit_overlap = record {
  consistent = again_consistent;
  taken = taken_then 29 (omega arith);
  untripped = untripped 29 (omega arith);
  allowed = (taken_then 30 (omega arith)).1;
  untripped_then = untripped 30 (omega arith);
  normal = is_normal;
  lit = ap gives_way shows_yellow;
  red_then = shows_red;
}
