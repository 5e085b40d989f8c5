use Rattle.std.proofs.Common.{◌≡◌, ◌≤◌, ◌-◌, List, false, length}
use Rattle.tsb_bench.specs.Held.{state_of}
use Rattle.tsb_log_text.specs.declared.log.LogRow.{LogRow}
use Rattle.tsb_step.specs.declared.inputs.Input.{Input}
use Rattle.tsb_types.specs.declared.row.Row.{Row}
use Rattle.tsb_text.specs.declared.rows.Rows.TheVariants.{Held}
use Rattle.tsb_text.specs.Rows.{rows_in}
use Rattle.tsb_text.specs.Answers.{Setup, line_in}
use Rattle.tsb_text.specs.Obeyed.{Stands, besides_of}
use Rattle.tsb_live_text.proofs.ChangeLemmas.{Changing}
use Rattle.tsb_live_text.proofs.changes.changes.Given as goal

abbrev pub invariant-loop-i : goal.invariant-loop-i
invariant-loop-i g l = record {
  changing : (given : Setup) (log : List LogRow) (row : Row) (is : List Input) → Stands given log l.fn.course is → log ≡ rows_in (Held row)
      → Changing given log (besides_of l.fn.course l.fn.echo) row is (line_in l.fn.course.is_wide (state_of l.fn.course.bench)) l.ticks l.course l.before l.is_owed (l.ticks - l._i)
      (g.W.Write.contents l.fn.writer.device) (g.W.Write.contents l.writer.device) l.fn.pending l.pending;
  long : 53 ≤ length l.before;
  short : length l.before ≤ 70;
  mode : l.course.mode ≡ l.fn.course.mode;
  well : l.fn.writer.failed ≡ false → l.writer.failed ≡ false;
}
