use Rattle.std.proofs.Common.{◌≡◌, List, length}
use Rattle.tsb_step.specs.declared.inputs.Input.{Input}
use Rattle.tsb_log_text.specs.declared.log.LogRow.{LogRow}
use Rattle.tsb_text.specs.Answers.{Setup}
use Rattle.tsb_text.specs.Obeyed.{OnCourse, Stands}
use Rattle.tsb_text.specs.Wanting.{WantsAfter}
use Rattle.tsb_text.proofs.FollowLemmas.{Following}
use Rattle.tsb_text.proofs.recording.recorder.follow_all.Given as goal

abbrev pub invariant-loop-refusal : goal.invariant-loop-refusal
invariant-loop-refusal l = record {
  on : (given : Setup) (log : List LogRow) (is : List Input) → Stands given log l.fn.course is → Following given log is l.fn.course.next l.course;
  wants : (course : OnCourse) → WantsAfter course l.course.next → WantsAfter course l.fn.course.next;
  mode : l.course.mode ≡ l.fn.course.mode;
}

abbrev pub decreases-loop-refusal : goal.decreases-loop-refusal
decreases-loop-refusal l = length l.course.next
