use Rattle.std.proofs.Common.{arith, subst, sym, ◌∙◌}
use Rattle.std.proofs.lemmas.Result.{err_from_is_err_and}
use Rattle.tsb_text.specs.Obeyed.{besides_of}
use Rattle.tsb_text.specs.Tasks.{AsksNoTick}
use Rattle.tsb_text.proofs.recording.OfLogLemmas.{asks-next}
use Rattle.tsb_text.proofs.CourseLemmas.{no-refusal}
use Rattle.tsb_text.proofs.AnswerLemmas.{quit-done, show-done, show-fault}
use Rattle.tsb_text.proofs.answers.obey.Goals as goal

pub returns-in-Ticks-clause-done : goal.returns-in-Ticks-clause-done
returns-in-Ticks-clause-done g c given log is s = rw (sym c.task_of.ensures.task ∙ c.in-Ticks.is) (c.step.ensures.done given log is s)

pub returns-in_err-say-in-Show-clause-done : goal.returns-in_err-say-in-Show-clause-done
returns-in_err-say-in-Show-clause-done g c given log is s = let p = err_from_is_err_and c.from_residual.result c.from_residual.ensures.1 in
    rw (p.1, sym c.task_of.ensures.task ∙ c.in-Show.is) (show-fault p.0 given log (besides_of c.args.course.now c.args.echo.now) is c.args.course.now _ _ _ _ c.as_bytes.result.now s (c.as_bytes.ensures ∙ c.make_line.ensures.line) c.in_err-say-in-Show.ensures.fault)

pub returns-in_ok-say-in-Show-clause-done : goal.returns-in_ok-say-in-Show-clause-done
returns-in_ok-say-in-Show-clause-done g c given log is s =
    rw (sym c.task_of.ensures.task ∙ c.in-Show.is, c.make_line.ensures.same) (show-done given log (besides_of c.args.course.now c.args.echo.now) is c.args.course.now _ _ _ _ c.as_bytes.result.now s (c.as_bytes.ensures ∙ c.make_line.ensures.line) c.in_ok-say-in-Show.ensures.ok)

pub returns-in-Quit-clause-done : goal.returns-in-Quit-clause-done
returns-in-Quit-clause-done g c given log is s =
    rw (sym c.task_of.ensures.task ∙ c.in-Quit.is) (quit-done given log (besides_of c.args.course.now c.args.echo.now) is c.args.course.now _ _ s)

pub returns-in-Ask-clause-done : goal.returns-in-Ask-clause-done
returns-in-Ask-clause-done g c given log is s = rw (sym c.task_of.ensures.task ∙ c.in-Ask.is) (c.ask.ensures.done given log is s (asks-next c.args.course.now.mode given is c.in-Ask.command (subst AsksNoTick c.in-Ask.is c.task_of.ensures.no_tick)))

pub returns-in-Ticks-clause-wanting : goal.returns-in-Ticks-clause-wanting
returns-in-Ticks-clause-wanting g c is = rw (sym c.task_of.ensures.task ∙ c.in-Ticks.is) (c.step.ensures.wanting is)

pub returns-in-Ask-clause-wanting : goal.returns-in-Ask-clause-wanting
returns-in-Ask-clause-wanting g c is = rw (sym c.task_of.ensures.task ∙ c.in-Ask.is) (c.ask.ensures.wanting is)

pub returns-in_err-say-in-Show-clause-wanting : goal.returns-in_err-say-in-Show-clause-wanting
returns-in_err-say-in-Show-clause-wanting g c is = let p = err_from_is_err_and c.from_residual.result c.from_residual.ensures.1 in
    absurd (no-refusal c.from_residual.result p.0 p.1 is)

pub returns-in_ok-say-in-Show-clause-wanting : goal.returns-in_ok-say-in-Show-clause-wanting
returns-in_ok-say-in-Show-clause-wanting g c is = absurd (grind (arith, is))

pub returns-in-Quit-clause-wanting : goal.returns-in-Quit-clause-wanting
returns-in-Quit-clause-wanting g c is = absurd (grind (arith, is))
