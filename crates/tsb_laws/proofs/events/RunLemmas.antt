-- The events of a run: those of display lines, and the heads that they give back.
use Rattle.std.proofs.Common.{◌≡◌, ◌∙◌, ◌≤◌, Bool, List, ◌∷◌, filter, sym, arith}
use Rattle.tsb_step.specs.tsb_types.declared.limits.TheConstants.{TICKS}
use Rattle.tsb_step.specs.tsb_plan.Plan.{Plan}
use Rattle.tsb_step.specs.declared.inputs.Input.{Input}
use Rattle.tsb_step.specs.declared.inputs.Input.TheVariants as inputs
use Rattle.tsb_step.specs.Events.{events_between, events_of, found, selected, view}
use Rattle.tsb_step.specs.Laws.{IsConsistent}
use Rattle.tsb_step.specs.Runs.{replay, AreTaken}
use Rattle.tsb_step.specs.Signs.{display, local, stage}
use Rattle.tsb_step.specs.State.{State}
use Rattle.tsb_step.specs.Step.{step}
use Rattle.tsb_step.proofs.GoodLemmas.{good_run}
use Rattle.tsb_text.specs.Answers.{line_in, preempt_in_service}
use Rattle.tsb_field_display.proofs.LineLemmas.{fields, read}
use Rattle.tsb_laws.specs.Told.{signals, shown_in, is_of_line, LinesAreReadInRuns, LinesTellTheSame}
use Rattle.tsb_laws.proofs.safety.DueLemmas.{count_run}
use Rattle.tsb_laws.proofs.safety.EnabledLemmas.{enabled_run}
use Rattle.tsb_laws.proofs.safety.LastTickLemmas.{run_early}
use Rattle.tsb_laws.proofs.events.LineLemmas.{Sees, lines_of, lines-same, on_line, shown-kept, ticks-kept, others-kept}
use Rattle.tsb_laws.proofs.events.ServedLemmas.{known-run}
use Rattle.tsb_laws.proofs.events.SeenLemmas.{no-arrow-of-phases, preempt-known, sees}

-- ## Display lines

pub run-sees : (is_wide : Bool) (plan : Plan) (is : List Input) → IsConsistent plan → plan.phase_count ≤ 16 → AreTaken plan is →
    Sees (signals is_wide (replay plan is)) (on_line is_wide (view (replay plan is))) (stage (replay plan is))
run-sees is_wide plan is ok few taken =
    let count : (replay plan is).plan.phase_count ≡ plan.phase_count = count_run plan is in
    sees is_wide (replay plan is) (good_run plan is ok taken) (known-run plan is taken) (λ p on. (enabled_run plan is ok taken).serves p on) (omega (arith, count, few))

pub lines-read : LinesAreReadInRuns
lines-read is_wide plan is ok taken =
    let limit : (replay plan is).now ≤ TICKS = run_early plan is taken in
    read is_wide s.now (display s) (preempt_in_service s) (local s) (line_in is_wide s) (omega (arith, limit))
    (preempt-known s (known-run plan is taken)) (no-arrow-of-phases s) (fields is_wide s.now (display s) (preempt_in_service s) (local s))
  where
    s : State
    s = replay plan is

pub tell-the-same : LinesTellTheSame
unfolding events_of
tell-the-same is_wide plan is i noted ok few taken =
    lines-same (signals is_wide s) (shown_in is_wide (step s i)) (on_line is_wide (view s)) (on_line is_wide (view (step s i))) (stage s) (stage (step s i))
    (run-sees is_wide plan is ok few taken.0) (run-sees is_wide plan (i ∷ is) ok few taken) ∙ sym (kept i)
  where
    s : State
    s = replay plan is

    kept : (j : Input) → filter (is_of_line is_wide) (events_between noted s j (step s j))
        ≡ lines_of (step s j).now (on_line is_wide (view s)) (on_line is_wide (view (step s j)))
    kept (inputs.Tick row) =
        shown-kept is_wide (events_between noted s (inputs.Tick row) (step s (inputs.Tick row))) (step s (inputs.Tick row)).now (view s)
        (view (step s (inputs.Tick row)))
        (ticks-kept (step s (inputs.Tick row)).now (found noted s row (step s (inputs.Tick row))) (view s) (view (step s (inputs.Tick row))))
    kept j =
        shown-kept is_wide (events_between noted s j (step s j)) (step s j).now (view s) (view (step s j))
        (others-kept (step s j).now noted (view s) (view (step s j)) (selected s) (selected (step s j)))
