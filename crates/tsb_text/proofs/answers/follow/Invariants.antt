use Rattle.std.proofs.Common.{◌≡◌, List, false, length}
use Rattle.tsb_bench.specs.tsb_step.declared.inputs.Input.{Input}
use Rattle.tsb_log_text.specs.declared.log.LogRow.{LogRow}
use Rattle.tsb_text.specs.Answers.{Setup}
use Rattle.tsb_text.specs.Obeyed.{OnCourse, Stands, tells_in}
use Rattle.tsb_text.specs.Wanting.{WantsAfter}
use Rattle.tsb_text.proofs.AnswerLemmas.{Trailed}
use Rattle.tsb_text.proofs.answers.follow.Given as goal

abbrev pub invariant-loop-course : goal.invariant-loop-course
invariant-loop-course g l = record {
  trailed : (given : Setup) (log : List LogRow) (is : List Input) → Stands given log l.fn.course is
      → Trailed given log (tells_in l.fn.course.mode) is l.fn.course.next l.course (g.W.Write.contents l.fn.writer.device) (g.W.Write.contents l.writer.device) l.fn.pending l.pending;
  wants : (course : OnCourse) → WantsAfter course l.course.next → WantsAfter course l.fn.course.next;
  rows : l.course.rows ≡ l.fn.course.rows;
  mode : l.course.mode ≡ l.fn.course.mode;
  acts : l.course.acts ≡ l.fn.course.acts;
  well : l.fn.writer.failed ≡ false → l.writer.failed ≡ false;
}

abbrev pub decreases-loop-course : goal.decreases-loop-course
decreases-loop-course g l = length l.course.next
