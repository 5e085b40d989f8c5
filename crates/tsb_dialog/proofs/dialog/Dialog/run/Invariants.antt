use Rattle.std.proofs.Common.{◌≡◌, ◌+◌, ◌≤◌, [], false, true}
use Rattle.tsb_dialog.specs.Going.{Going}
use Rattle.tsb_dialog.specs.declared.dialog.TheConstants.{KEPT}
use Rattle.tsb_dialog.proofs.dialog.Dialog.run.Given as goal

abbrev pub invariant-loop-count : goal.invariant-loop-count
invariant-loop-count g l = record {
  going : (from : g.A.Answers.State) → g.A.Answers.stands l.fn.answers from
      → Going KEPT l.limit g.A.Answers.stands g.A.Answers.says from l.answers l.self.number l.self.line l.left
      (g.R.Read.remaining l.fn.reader.device) (g.R.Read.remaining l.reader.device) (g.W.Write.contents l.fn.writer.device) (g.W.Write.contents l.writer.device) l.self.pending;
  sent : l.self.pending ≡ [];
  flushed : l.writer.flushed ≡ true;
  reads : l.reader.failed ≡ false;
  well : l.writer.failed ≡ false;
  number : l.self.number + l.left ≤ l.limit + 1;
}

abbrev pub decreases-loop-count : goal.decreases-loop-count
decreases-loop-count g l = l.left
