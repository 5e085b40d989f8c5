use Rattle.std.proofs.Common.{◌≡◌, ◌++◌, ◌+◌, ◌≤◌, false, length, List, ℕ, Ok}
use Rattle.tsb_dialog.specs.declared.answers.Flow.TheVariants.{On}
use Rattle.tsb_dialog.specs.Going.{Fed}
use Rattle.tsb_dialog.specs.Heard.{Heard}
use Rattle.tsb_dialog.specs.declared.dialog.TheConstants.{KEPT}
use Rattle.tsb_dialog.proofs.dialog.Dialog.feed_all.Given as goal

-- what was taken so far, whole lines, was answered; no more lines than it has bytes
abbrev pub invariant-loop-rest : goal.invariant-loop-rest
invariant-loop-rest g l = record {
  fed : (taken : List ℕ) × (l.bytes ≡ taken ++ l.left) × (l.self.number ≤ l.fn.self.number + length taken)
      × ((from now : g.A.Answers.State) (before text : List ℕ) → g.A.Answers.stands l.fn.answers now → Heard KEPT g.A.Answers.says from before text l.fn.self.number now l.fn.self.line
      → Fed KEPT g.A.Answers.stands g.A.Answers.says from (before ++ taken) text (Ok On) l.answers l.self.number l.self.line
      (g.W.Write.contents l.fn.writer.device) (g.W.Write.contents l.writer.device) l.fn.self.pending l.self.pending);
  well : l.fn.writer.failed ≡ false → l.writer.failed ≡ false;
}

abbrev pub decreases-loop-rest : goal.decreases-loop-rest
decreases-loop-rest g l = length l.left
