use Rattle.std.proofs.Common.{◌≡◌, ◌-◌, List}
use Rattle.tsb_step.specs.declared.inputs.Input.{Input}
use Rattle.tsb_log_text.specs.declared.log.LogRow.{LogRow}
use Rattle.tsb_text.specs.Answers.{Setup}
use Rattle.tsb_text.specs.Obeyed.{Stands}
use Rattle.tsb_text.proofs.recording.RecorderLemmas.{Stepping}
use Rattle.tsb_text.proofs.recording.recorder.step.Given as goal

abbrev pub invariant-loop-i : goal.invariant-loop-i
invariant-loop-i l = ((given : Setup) (log : List LogRow) (is : List Input) → Stands given log l.fn.course is → Stepping given log is l.ticks l.course (l.ticks - l._i)) × (l.course.mode ≡ l.fn.course.mode)
