use Rattle.std.proofs.Common.{◌∙◌, subst, sym}
use Rattle.tsb_text.specs.Tasks.{AsksNoTick}
use Rattle.tsb_text.proofs.recording.OfLogLemmas.{asks-next}
use Rattle.tsb_text.proofs.recording.RecorderLemmas.{quit-left, shown-left}
use Rattle.tsb_text.proofs.recording.recorder.obey.Goals as goal

pub returns-in-Ticks-clause-done : goal.returns-in-Ticks-clause-done
returns-in-Ticks-clause-done c given log is s = rw (sym c.task_of.ensures.task ∙ c.in-Ticks.is) (c.step.ensures.done given log is s)

pub returns-in-Ask-clause-done : goal.returns-in-Ask-clause-done
returns-in-Ask-clause-done c given log is s =
    rw (sym c.task_of.ensures.task ∙ c.in-Ask.is) (c.ask.ensures.done given log is s (asks-next c.args.course.now.mode given is c.in-Ask.command (subst AsksNoTick c.in-Ask.is c.task_of.ensures.no_tick)))

pub returns-in-Show-clause-done : goal.returns-in-Show-clause-done
returns-in-Show-clause-done c given log is s = rw (sym c.task_of.ensures.task ∙ c.in-Show.is) (shown-left given log is c.args.course.now s)

pub returns-in-Quit-clause-done : goal.returns-in-Quit-clause-done
returns-in-Quit-clause-done c given log is s = rw (sym c.task_of.ensures.task ∙ c.in-Quit.is) (quit-left given log is c.args.course.now s)

pub returns-in-Ticks-clause-wanting : goal.returns-in-Ticks-clause-wanting
returns-in-Ticks-clause-wanting c is = rw (sym c.task_of.ensures.task ∙ c.in-Ticks.is) (c.step.ensures.wanting is)

pub returns-in-Ask-clause-wanting : goal.returns-in-Ask-clause-wanting
returns-in-Ask-clause-wanting c is = rw (sym c.task_of.ensures.task ∙ c.in-Ask.is) (c.ask.ensures.wanting is)
