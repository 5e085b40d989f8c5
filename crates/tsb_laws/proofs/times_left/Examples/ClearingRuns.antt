-- A run from power-up that meets the premises of the laws of what is left of a clearance: preempt 1, which wants 1 and 6, ends
-- the green of 2 at once. 2 is in yellow for 30 ticks and in red clearance for 10, and 1 waits for it. And mistakes that these
-- laws refuse.
use Rattle.std.proofs.Common.{zero, suc, ◌≡◌, ℕ, Bool, true, false, List, [], ◌∷◌, ◌++◌, Option, Some, None, refl, sym, ap, arith, ◌∙◌}
use Rattle.tsb_step.specs.tsb_types.declared.interval.Interval.{Interval}
use Rattle.tsb_step.specs.tsb_types.declared.interval.Interval.TheVariants.{Yellow, RedClear}
use Rattle.tsb_step.specs.tsb_types.Sets.{all_off}
use Rattle.tsb_step.specs.tsb_plan.declared.object.Object.{Object}
use Rattle.tsb_step.specs.tsb_plan.declared.object.Object.TheVariants.{PreemptMinimumGreen, PreemptDwellPhase}
use Rattle.tsb_step.specs.tsb_plan.Objects.{greatest}
use Rattle.tsb_step.specs.tsb_plan.Plan.{Plan, all_counts, yellow_change, red_clear, with_values}
use Rattle.tsb_step.specs.tsb_plan.Quad.{quad}
use Rattle.tsb_step.specs.tsb_rules.Rules.{first_broken}
use Rattle.tsb_step.specs.tsb_ring.Rings.{Ring1}
use Rattle.tsb_step.specs.declared.inputs.Input.{Input}
use Rattle.tsb_step.specs.declared.inputs.Input.TheVariants.{Tick, Switch}
use Rattle.tsb_step.specs.declared.waits.Wait.{Wait}
use Rattle.tsb_step.specs.declared.waits.Wait.TheVariants as waits
use Rattle.tsb_step.specs.State.{State, interval}
use Rattle.tsb_step.specs.Status.{RingStatus, status}
use Rattle.tsb_step.specs.Tick.{over}
use Rattle.tsb_step.specs.Waits.{left, phases_again, served, lack, committed_wait, free_wait, wait}
use Rattle.tsb_step.specs.Step.{step}
use Rattle.tsb_step.specs.Runs.{replay, AreTaken}
use Rattle.tsb_step.specs.Laws.{IsConsistent}
use Rattle.tsb_step.proofs.Examples.Scenes.{opened, vehicle}
use Rattle.tsb_laws.specs.TimesLeft.{IsShown, InEachTick, KeepsYellow, KeepsRedClear, ToClear, here, HasBegun, KeepsBoth}
use Rattle.tsb_laws.proofs.safety.Examples.PlanFits.{Fits, values_fit, quad_fits, consistent}
use Rattle.tsb_laws.proofs.safety.Examples.TickRuns.{ticks, now_then, plan_then, all_taken}
use Rattle.tsb_laws.proofs.times_left.Examples.TickTests.{ticked, ticked_is, each_plan, IsStretch, ticks_stretch}
use Rattle.tsb_laws.proofs.times_left.Examples.LeftRuns.{sooner}

abbrev ending_values : List (Object × ℕ × ℕ)
ending_values = (PreemptMinimumGreen, 1, 0) ∷ (PreemptDwellPhase, 1, 33) ∷ []

unfoldable ending : Plan
ending = with_values quad ending_values

ending_fits : Fits greatest ending.value
unfolding ending
ending_fits = values_fit greatest ending_values quad refl (quad_fits greatest refl refl)

ending_count : (ending.phase_count ≡ 16) × (ending.counts ≡ all_counts)
unfolding quad ending
ending_count = (refl, refl)

breaks_none : first_broken ending ≡ None
unfolding opened ending
breaks_none = refl

ending_consistent : IsConsistent ending
ending_consistent = consistent greatest ending ending_count breaks_none ending_fits

-- what is shown of ring 1, opened
unfoldable shown_opened : Unit {0}
unfolding opened ending status served lack phases_again committed_wait free_wait wait
shown_opened = tt

-- a stretch with what is shown before it, and what each of its ticks has
record Meets (base later : List Input) (Shown Each : Type 0) : Type 0 where
  stretch : IsStretch ending base later
  shown : Shown
  each : Each

-- what the status of ring 1 shows
abbrev ring_1 : State → RingStatus
ring_1 s = (status s).ring Ring1

-- ## Its yellow

-- the green of 2 ends in the second tick
abbrev ended : List Input
ended = Tick (vehicle 1) ∷ Switch 1 true ∷ Tick all_off ∷ []

-- the phase in service, what is left of its yellow and of its red clearance, and what 1 waits for
abbrev yellow_shown : State → Option ℕ × Option ℕ × Option ℕ × Option Wait
yellow_shown s = ((ring_1 s).phase, (ring_1 s).yellow_left, (ring_1 s).red_clearance_left, (status s).wait 1)

at_end : yellow_shown (replay ending ended) ≡ (Some 2, Some 30, None, Some (waits.Clears 2 40))
unfolding shown_opened
at_end = refl

ended_at : (replay ending ended).now ≡ 2
unfolding opened ending
ended_at = refl

ended_taken : AreTaken ending ended
unfolding opened ending
ended_taken = (((tt, refl), refl), refl)

a_yellow : Meets ended (ticks (vehicle 1) 30) (IsShown (replay ending ended) Ring1 2 (λ x. x.yellow_left) 30)
    (InEachTick (KeepsYellow 2 (replay ending ended)) ending ended (ticks (vehicle 1) 30))
a_yellow = record {
  stretch = ticks_stretch ending (vehicle 1) ended 30 ending_consistent ended_taken refl (let at = ended_at in omega (arith, at));
  shown = record {
    phase = ap (λ (x : Option ℕ × Option ℕ × Option ℕ × Option Wait). x.0) at_end;
    left = ap (λ (x : Option ℕ × Option ℕ × Option ℕ × Option Wait). x.1) at_end;
  };
  each = each_plan (λ (x : Plan). yellow_change x 2) ending (vehicle 1) ended 30;
}

-- its interval, and what is shown then
abbrev Cleared : Type 0
Cleared = Interval × Option ℕ × Option ℕ

abbrev interval_shown : State → Cleared
interval_shown s = (interval s 2, (ring_1 s).phase, (ring_1 s).red_clearance_left)

-- whether it is over in the next tick, and in the one after that
abbrev over_soon : State → Bool × Bool
over_soon s = (over s 2, over (step s (Tick (vehicle 1))) 2)

-- what its red clearance shows, what a mistake would show, and its end after eight ticks more
abbrev red_clear_on : State → Cleared × ℕ × (Bool × Bool)
red_clear_on s = (interval_shown s, sooner (red_clear s.plan 2) (s.phases 2).timer, over_soon (ticked (vehicle 1) s 8))

abbrev Course : Type 0
Course = (Cleared × Bool) × (Cleared × ℕ × (Bool × Bool))

abbrev course : State → Course
course s = ((interval_shown s, over s 2), red_clear_on (step s (Tick (vehicle 1))))

runs_on : course (replay ending (ticks (vehicle 1) 29 ++ ended)) ≡ (((Yellow, Some 2, None), false), ((RedClear, Some 2, Some 10), 9, (false, true)))
unfolding shown_opened
runs_on = refl

yellow_at_29 : interval_shown (replay ending (ticks (vehicle 1) 29 ++ ended)) ≡ (Yellow, Some 2, None)
yellow_at_29 = ap (λ (x : Course). x.0.0) runs_on

red_clear_at_30 : interval_shown (replay ending (ticks (vehicle 1) 30 ++ ended)) ≡ (RedClear, Some 2, Some 10)
red_clear_at_30 = ap (λ (x : Course). x.1.0) runs_on

yellow_would_show_29 : sooner (yellow_change (replay ending ended).plan 2) ((replay ending ended).phases 2).timer ≡ 29
unfolding opened ending
yellow_would_show_29 = refl

-- ## Its red clearance

abbrev cleared : List Input
cleared = ticks (vehicle 1) 30 ++ ended

cleared_at : (replay ending cleared).now ≡ 32
cleared_at = let at = ended_at in let clock = now_then ending (vehicle 1) ended 30 in omega (arith, at, clock)

cleared_taken : AreTaken ending cleared
cleared_taken = all_taken ending (vehicle 1) ended 30 ended_taken (let at = ended_at in omega (arith, at))

a_red_clearance : Meets cleared (ticks (vehicle 1) 9) (IsShown (replay ending cleared) Ring1 2 (λ x. x.red_clearance_left) 10)
    (InEachTick (KeepsRedClear 2 (replay ending cleared)) ending cleared (Tick (vehicle 1) ∷ ticks (vehicle 1) 9))
a_red_clearance = record {
  stretch = ticks_stretch ending (vehicle 1) cleared 9 ending_consistent cleared_taken refl (let at = cleared_at in omega (arith, at));
  shown = record {
    phase = ap (λ (x : Cleared). x.1) red_clear_at_30;
    left = ap (λ (x : Cleared). x.2) red_clear_at_30;
  };
  each = each_plan (λ (x : Plan). red_clear x 2) ending (vehicle 1) cleared 10;
}

over_then : over_soon (replay ending (ticks (vehicle 1) 8 ++ cleared)) ≡ (false, true)
over_then = sym (ap over_soon (ticked_is ending (vehicle 1) cleared 8)) ∙ ap (λ (x : Course). x.1.2) runs_on

over_in_10 : over (replay ending (ticks (vehicle 1) 9 ++ cleared)) 2 ≡ true
over_in_10 = ap (λ (x : Bool × Bool). x.1) over_then

not_over_in_9 : over (replay ending (ticks (vehicle 1) 8 ++ cleared)) 2 ≡ false
not_over_in_9 = ap (λ (x : Bool × Bool). x.0) over_then

red_clearance_would_show_9 : sooner (red_clear (replay ending cleared).plan 2) ((replay ending cleared).phases 2).timer ≡ 9
red_clearance_would_show_9 = ap (λ (x : Course). x.1.1) runs_on

-- ## What 1 waits for: both together

each_both : (n : ℕ) → InEachTick (KeepsBoth 2 (replay ending ended)) ending ended (ticks (vehicle 1) n)
each_both zero = tt
each_both (suc n) = (
  each_both n,
  record {
    yellow = ap (λ (x : Plan). yellow_change x 2) (plan_then ending (vehicle 1) ended n);
    red = ap (λ (x : Plan). red_clear x 2) (plan_then ending (vehicle 1) ended n);
  },
)

has_begun : HasBegun (replay ending ended) 2 (interval (replay ending ended) 2)
unfolding opened ending
has_begun = refl

a_wait : Meets ended (ticks (vehicle 1) 39) (ToClear (replay ending ended) 2 40)
    (InEachTick (KeepsBoth 2 (replay ending ended)) ending ended (Tick (vehicle 1) ∷ ticks (vehicle 1) 39))
a_wait = record {
  stretch = ticks_stretch ending (vehicle 1) ended 39 ending_consistent ended_taken refl (let at = ended_at in omega (arith, at));
  shown = here 1 (ap (λ (x : Option ℕ × Option ℕ × Option ℕ × Option Wait). x.3) at_end);
  each = each_both 40;
}

-- a mistake: a wait that leaves out the red clearance
wait_would_show_30 : left (yellow_change (replay ending ended).plan 2) ((replay ending ended).phases 2).timer ≡ 30
unfolding opened ending
wait_would_show_30 = refl

not_over_in_30 : over (replay ending (ticks (vehicle 1) 29 ++ ended)) 2 ≡ false
not_over_in_30 = ap (λ (x : Course). x.0.1) runs_on
