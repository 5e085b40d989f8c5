-- A run from power-up that meets the premises of the law of red reverts that are shown: preempt 2 wants 6 alone, so that the green of
-- 2 ends with no commitment; preempt 1 wants 2 again, which waits for its red revert of 20 ticks. And a mistake that the law refuses.
use Rattle.std.proofs.Common.{◌≡◌, ℕ, ◌+◌, Bool, true, false, List, ◌∷◌, ◌++◌, Option, Some, refl, ap, arith}
use Rattle.tsb_step.specs.tsb_types.Intervals.{is_yellow}
use Rattle.tsb_step.specs.tsb_types.Sets.{all_off, is_phase}
use Rattle.tsb_step.specs.tsb_types.declared.row.Row.{Row}
use Rattle.tsb_step.specs.tsb_plan.Plan.{Plan, red_revert}
use Rattle.tsb_step.specs.declared.inputs.Input.{Input}
use Rattle.tsb_step.specs.declared.inputs.Input.TheVariants.{Tick}
use Rattle.tsb_step.specs.declared.waits.Wait.{Wait}
use Rattle.tsb_step.specs.declared.waits.Wait.TheVariants as waits
use Rattle.tsb_step.specs.State.{State, interval}
use Rattle.tsb_step.specs.Status.{status}
use Rattle.tsb_step.specs.Tick.{reverted}
use Rattle.tsb_step.specs.Waits.{phases_again, served, lack, committed_wait, free_wait, wait}
use Rattle.tsb_step.specs.Runs.{replay, AreTaken}
use Rattle.tsb_step.proofs.Examples.Scenes.{opened}
use Rattle.tsb_laws.specs.TimesLeft.{InEachTick, ToRevert, own, KeepsRevert}
use Rattle.tsb_laws.proofs.safety.Examples.TickRuns.{ticks, now_then, all_taken}
use Rattle.tsb_laws.proofs.safety.Examples.RedRevertRuns.{again, again_consistent, ended, ended_taken, ticked_2}
use Rattle.tsb_laws.proofs.times_left.Examples.LeftRuns.{sooner}
use Rattle.tsb_laws.proofs.times_left.Examples.TickTests.{each_plan, IsStretch, ticks_stretch}

-- as 2 is red, 30 ticks after the end of its green
abbrev red : List Input
red = ticks all_off 30 ++ ended

red_taken : AreTaken again red
red_taken = all_taken again all_off ended 30 ended_taken (let at = ticked_2 in omega (arith, at))

red_at : (replay again red).now ≡ 32
red_at = let at = ticked_2 in let clock = now_then again all_off ended 30 in omega (arith, at, clock)

-- whether 2 is in yellow, and what it waits for
abbrev revert_shown : State → Bool × Option Wait
revert_shown s = (is_yellow (interval s 2), (status s).wait 2)

at_red : revert_shown (replay again red) ≡ (false, Some (waits.RedRevert 20))
unfolding opened again status served lack phases_again committed_wait free_wait wait
at_red = refl

record RedRevertShown (base later : List Input) (row : Row) (p n : ℕ) : Type 0 where
  stretch : IsStretch again base later
  phase : is_phase p ≡ true
  shown : ToRevert (replay again base) p n
  begun : is_yellow (interval (replay again base) p) ≡ false
  each : InEachTick (KeepsRevert p (replay again base)) again base (Tick row ∷ later)

a_red_revert : RedRevertShown red (ticks all_off 19) all_off 2 20
a_red_revert = record {
  stretch = ticks_stretch again all_off red 19 again_consistent red_taken refl (let at = red_at in omega (arith, at));
  phase = refl;
  shown = own (ap (λ (x : Bool × Option Wait). x.1) at_red);
  begun = ap (λ (x : Bool × Option Wait). x.0) at_red;
  each = each_plan (λ (x : Plan). red_revert x 2) again all_off red 20;
}

reverts_in_20 : reverted (replay again (ticks all_off 19 ++ red)) 2 ≡ true
unfolding opened again
reverts_in_20 = refl

not_in_19 : reverted (replay again (ticks all_off 18 ++ red)) 2 ≡ false
unfolding opened again
not_in_19 = refl

-- a mistake: what is shown is left once the next tick has passed
would_show_19 : sooner (red_revert (replay again red).plan 2) ((replay again red).phases 2).red_revert ≡ 19
unfolding opened again
would_show_19 = refl
