-- Runs of PreemptStageRuns and PreemptChoiceRuns beside what a worksheet of their plans has, and a mistake in it that the law
-- refuses.
use Rattle.std.proofs.Common.{◌≡◌, ◌∙◌, ℕ, zero, suc, ◌+◌, ◌≤◌, true, max, List, ◌∷◌, ◌++◌, refl, arith}
use Rattle.tsb_step.specs.tsb_types.Sets.{all_off}
use Rattle.tsb_step.specs.tsb_types.declared.row.Row.{Row}
use Rattle.tsb_step.specs.tsb_types.declared.stage.Stage.TheVariants.{Dwell}
use Rattle.tsb_step.specs.tsb_plan.Parts.{preempt_minimum_green}
use Rattle.tsb_step.specs.tsb_plan.Plan.{Plan}
use Rattle.tsb_step.specs.declared.inputs.Input.{Input}
use Rattle.tsb_step.specs.declared.inputs.Input.TheVariants.{Tick}
use Rattle.tsb_step.specs.Runs.{replay, AreTaken}
use Rattle.tsb_step.specs.Laws.{IsConsistent}
use Rattle.tsb_step.proofs.Examples.Scenes.{opened}
use Rattle.tsb_review.specs.Worksheet.{clearing, greatest, held as times_held, longest_entry, pedestrians_left}
use Rattle.tsb_laws.specs.Stretches.{IsUntripped, has_held_since, has_no_trails}
use Rattle.tsb_laws.specs.PreemptDwells.{BeginsService}
use Rattle.tsb_laws.specs.PreemptStages.{is_in_stage}
use Rattle.tsb_laws.specs.PreemptWorksheets.{HasStayed, first_stage}
use Rattle.tsb_laws.proofs.safety.Examples.TickRuns.{ticks, plan_then}
use Rattle.tsb_laws.proofs.operation.Examples.PreemptStageRuns.{an_engine, asked, began, begins, begun_engine, dwells_on, engine, held_for, taken_for, untripped_for}
use Rattle.tsb_laws.proofs.operation.Examples.PreemptChoiceRuns.{anew, begins_anew, begun_anew, dwells_anew, one_anew}

-- the plan stays over ticks
stayed : (plan : Plan) (base : List Input) (n : ℕ) → (replay plan base).plan ≡ plan → HasStayed plan plan base (ticks all_off n)
stayed plan base zero is = is
stayed plan base (suc n) is = (stayed plan base n is, plan_then plan all_off base (suc n) ∙ is)

record Printed (plan : Plan) (is later : List Input) (row : Row) (n entry : ℕ) : Type 0 where
  consistent : IsConsistent plan
  few : plan.phase_count ≤ 16
  untrailed : has_no_trails plan ≡ true
  taken : AreTaken plan (later ++ (Tick row ∷ is))
  untripped : IsUntripped plan (Tick row ∷ is) later
  stays : HasStayed plan plan (Tick row ∷ is) later
  begins : BeginsService plan is row n
  held : has_held_since (λ s. is_in_stage n (first_stage plan n) s.preempts.service) plan (Tick row ∷ is) later ≡ true
  prints : longest_entry plan n ≡ entry

-- ## 4 is Green after 69 ticks of the 75 that the worksheet has

prints_75 : longest_entry engine 1 ≡ 75
unfolding opened engine greatest times_held
prints_75 = refl

begins_in_dwell : first_stage engine 1 ≡ Dwell
unfolding opened engine
begins_in_dwell = refl

a_printed_entry : Printed engine asked (ticks all_off 69) all_off 1 75
a_printed_entry = record {
  consistent = an_engine.consistent;
  few = an_engine.few;
  untrailed = an_engine.untrailed;
  taken = taken_for engine began begun_engine 69 (omega arith);
  untripped = untripped_for engine began begun_engine 69 (omega arith);
  stays = stayed engine began 69 begun_engine.plan_is;
  begins = begins;
  held = rw begins_in_dwell (held_for (λ s. is_in_stage 1 Dwell s.preempts.service) engine began 69 dwells_on);
  prints = prints_75;
}

-- ## Where it chooses anew, after 29 of 45

prints_45 : longest_entry anew 1 ≡ 45
unfolding opened anew greatest times_held
prints_45 = refl

begins_in_dwell_anew : first_stage anew 1 ≡ Dwell
unfolding opened anew
begins_in_dwell_anew = refl

a_chosen_entry : Printed anew asked (ticks all_off 29) all_off 1 45
a_chosen_entry = record {
  consistent = one_anew.consistent;
  few = one_anew.few;
  untrailed = one_anew.untrailed;
  taken = taken_for anew began begun_anew 29 (omega arith);
  untripped = untripped_for anew began begun_anew 29 (omega arith);
  stays = stayed anew began 29 begun_anew.plan_is;
  begins = begins_anew;
  held = rw begins_in_dwell_anew (held_for (λ s. is_in_stage 1 Dwell s.preempts.service) anew began 29 dwells_anew);
  prints = prints_45;
}

-- ## An entry that leaves out for what an older commitment waits: `would_be_late` of PreemptChoiceRuns has it longer

abbrev one_clearance : Plan → ℕ → ℕ
one_clearance plan n = max (greatest plan (pedestrians_left plan n)) (preempt_minimum_green plan n + 1) + greatest plan (clearing plan) + 4

would_print_45 : one_clearance engine 1 ≡ 45
unfolding opened engine greatest times_held
would_print_45 = refl
