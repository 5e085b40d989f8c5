-- Runs from power-up in which a preempt that chooses anew is in its dwell, and a mistake that the laws of these refuse.
use Rattle.std.proofs.Common.{◌≡◌, ℕ, ◌+◌, ◌≤◌, Bool, true, false, not, List, ◌∷◌, ◌++◌, None, refl, sym, ap, arith}
use Rattle.tsb_step.specs.tsb_types.Sets.{all_off}
use Rattle.tsb_step.specs.tsb_types.declared.row.Row.{Row}
use Rattle.tsb_step.specs.tsb_types.declared.stage.Stage.{Stage}
use Rattle.tsb_step.specs.tsb_types.declared.stage.Stage.TheVariants.{Dwell}
use Rattle.tsb_step.specs.tsb_plan.declared.object.Object.TheVariants.{PhaseRedRevert, UnitRedRevert, PreemptChoosesAnew}
use Rattle.tsb_step.specs.tsb_plan.Parts.{track_green}
use Rattle.tsb_step.specs.tsb_plan.Plan.{Plan, all_counts, empty, with_values, red_revert}
use Rattle.tsb_step.specs.tsb_preempt.Service.{has_track}
use Rattle.tsb_step.specs.tsb_rules.Rules.{first_broken}
use Rattle.tsb_step.specs.declared.inputs.Input.{Input}
use Rattle.tsb_step.specs.declared.inputs.Input.TheVariants.{Tick}
use Rattle.tsb_step.specs.Runs.{replay, AreTaken}
use Rattle.tsb_step.specs.Laws.{IsConsistent}
use Rattle.tsb_step.proofs.Examples.Scenes.{opened}
use Rattle.tsb_laws.specs.Stretches.{IsUntripped, has_held_since, largest, has_no_trails}
use Rattle.tsb_laws.specs.PreemptChoices.{chooses, HasChosen, ChoiceTakesAtMost, time_to_chosen_dwell}
use Rattle.tsb_laws.specs.PreemptDwells.{BeginsService, is_served}
use Rattle.tsb_laws.specs.PreemptStages.{is_in_stage, serves_stage}
use Rattle.tsb_laws.proofs.safety.Examples.PlanFits.{Fits, consistent}
use Rattle.tsb_laws.proofs.safety.Examples.TickRuns.{ticks}
use Rattle.tsb_laws.proofs.safety.Examples.StretchRuns.{gone, values_alone_fit}
use Rattle.tsb_laws.proofs.operation.Examples.PreemptStageRuns.{engine, engine_values, limit, AnEngine, Begun, taken_for, untripped_for, most, takes, tracks, asked, began, held_for}

-- ## In the run of PreemptStageRuns the commitment to 2 is given up, and 4 is Green after 29 ticks

-- its plan, as the preempt chooses anew
unfoldable pub anew : Plan
anew = with_values empty ((PreemptChoosesAnew, 1, 1) ∷ engine_values)

anew_count : (anew.phase_count ≡ 16) × (anew.counts ≡ all_counts)
unfolding anew
anew_count = (refl, refl)

anew_breaks_none : first_broken anew ≡ None
unfolding opened anew
anew_breaks_none = refl

anew_fits : Fits limit anew.value
unfolding anew
anew_fits = values_alone_fit limit ((PreemptChoosesAnew, 1, 1) ∷ engine_values) refl

anew_untrailed : has_no_trails anew ≡ true
unfolding opened anew
anew_untrailed = refl

pub one_anew : AnEngine anew
one_anew = record {
  untrailed = anew_untrailed;
  consistent = consistent limit anew anew_count anew_breaks_none anew_fits;
  few = (let count = anew_count.0 in omega (arith, count));
  fits = anew_fits;
}

pub begun_anew : Begun anew began
unfolding opened anew
begun_anew = record { known = one_anew; taken = ((((tt, refl), refl), refl), refl); unlit = refl; now = refl; plan_is = refl }

pub begins_anew : BeginsService anew asked all_off 1
unfolding opened anew
begins_anew = refl

no_track_anew : has_track (replay anew asked).plan 1 ≡ false
unfolding opened anew
no_track_anew = refl

pub dwells_anew : (gone (λ s i. is_in_stage 1 Dwell s.preempts.service) (replay anew began) (ticks all_off 30)).1 ≡ true
unfolding opened anew
dwells_anew = refl

serves_anew : (gone (λ s i. is_served 1 s.preempts.service) (replay anew began) (ticks all_off 30)).1 ≡ true
unfolding opened anew
serves_anew = refl

chosen_on : (gone (λ s i. chooses s) (replay anew began) (ticks all_off 30)).1 ≡ true
unfolding opened anew
chosen_on = refl

-- it takes so long
waits_anew : (gone (λ s i. not (serves_stage 1 Dwell s)) (replay anew began) (ticks all_off 29)).1 ≡ true
unfolding opened anew
waits_anew = refl

comes_anew : serves_stage 1 Dwell (replay anew (ticks all_off 29 ++ began)) ≡ true
unfolding opened anew
comes_anew = refl

takes_anew : ChoiceTakesAtMost anew began 1 10 0 30 0 (ticks all_off 29)
takes_anew = record { stage = takes anew began begun_anew 29 (omega arith); revert = λ p. most anew began begun_anew 29 (omega arith) (λ x. red_revert x p) 0 (reverts p) }
  where
    reverts : (p : ℕ) → red_revert anew p ≤ 0
    reverts p =
        let a : anew.value PhaseRedRevert p ≤ 0 = anew_fits.bounded PhaseRedRevert p in
        let b : anew.value UnitRedRevert 1 ≤ 0 = anew_fits.bounded UnitRedRevert 1 in omega (arith, a, b)

record Choice (plan : Plan) (base later : List Input) (n : ℕ) (stage : Stage) (g w c v : ℕ) : Type 0 where
  consistent : IsConsistent plan
  few : plan.phase_count ≤ 16
  taken : AreTaken plan (later ++ base)
  untripped : IsUntripped plan base later
  chosen : HasChosen plan base later
  held : has_held_since (λ s. is_in_stage n stage s.preempts.service) plan base later ≡ true
  times : ChoiceTakesAtMost plan base n g w c v later

a_choice : Choice anew began (ticks all_off 29) 1 Dwell 10 0 30 0
a_choice = record {
  consistent = one_anew.consistent;
  few = one_anew.few;
  taken = taken_for anew began begun_anew 29 (omega arith);
  untripped = untripped_for anew began begun_anew 29 (omega arith);
  chosen = held_for (λ s. chooses s) anew began 29 chosen_on;
  held = held_for (λ s. is_in_stage 1 Dwell s.preempts.service) anew began 29 dwells_anew;
  times = takes_anew;
}

record ChosenService (plan : Plan) (is later : List Input) (row : Row) (n g w c v t limit : ℕ) : Type 0 where
  choice : Choice plan (Tick row ∷ is) later n Dwell g w c v
  begins : BeginsService plan is row n
  held : has_held_since (λ s. is_served n s.preempts.service) plan (Tick row ∷ is) later ≡ true
  green : largest (λ x. track_green x n) plan (Tick row ∷ is) later ≤ t
  due : limit ≡ time_to_chosen_dwell (has_track (replay plan is).plan n) g w c v t

a_chosen_dwell : ChosenService anew asked (ticks all_off 29) all_off 1 10 0 30 0 0 (time_to_chosen_dwell false 10 0 30 0 0)
a_chosen_dwell = record {
  choice = a_choice;
  begins = begins_anew;
  held = held_for (λ s. is_served 1 s.preempts.service) anew began 29 serves_anew;
  green = tracks anew began begun_anew 29 (omega arith);
  due = sym (ap (λ (b : Bool). time_to_chosen_dwell b 10 0 30 0 0) no_track_anew);
}

-- ## A preempt that chooses anew, and still has rings serve what they were committed to

-- its time is that of a worksheet
would_give_45 : time_to_chosen_dwell false 10 0 30 0 0 ≡ 45
would_give_45 = refl

-- in `engine`, as if the option were not read, 4 is not Green after any of so many ticks
would_be_late : (gone (λ s i. not (serves_stage 1 Dwell s)) (replay engine began) (ticks all_off 46)).1 ≡ true
unfolding opened engine
would_be_late = refl
