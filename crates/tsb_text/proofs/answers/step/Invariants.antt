use Rattle.std.proofs.Common.{◌≡◌, ◌-◌, List, false}
use Rattle.tsb_bench.specs.tsb_step.declared.inputs.Input.{Input}
use Rattle.tsb_log_text.specs.declared.log.LogRow.{LogRow}
use Rattle.tsb_text.specs.Answers.{Setup}
use Rattle.tsb_text.specs.Obeyed.{Stands, besides_of}
use Rattle.tsb_text.proofs.AnswerLemmas.{Stepping}
use Rattle.tsb_text.proofs.answers.step.Given as goal

abbrev pub invariant-loop-i : goal.invariant-loop-i
invariant-loop-i g l = record {
  steps : (given : Setup) (log : List LogRow) (is : List Input) → Stands given log l.fn.course is
      → Stepping given log (besides_of l.fn.course l.fn.echo) is l.ticks l.course (l.ticks - l._i) (g.W.Write.contents l.fn.writer.device) (g.W.Write.contents l.writer.device) l.fn.pending l.pending;
  rows : l.course.rows ≡ l.fn.course.rows;
  mode : l.course.mode ≡ l.fn.course.mode;
  well : l.fn.writer.failed ≡ false → l.writer.failed ≡ false;
}
