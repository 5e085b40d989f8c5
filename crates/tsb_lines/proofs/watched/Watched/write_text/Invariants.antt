use Rattle.std.proofs.Common.{◌≡◌, ◌≤◌, ◌-◌, drop, length}
use Rattle.tsb_lines.proofs.StreamLemmas.{Gone}
use Rattle.tsb_lines.proofs.watched.Watched.write_text.Given as goal

abbrev pub invariant-loop-gone : goal.invariant-loop-gone
invariant-loop-gone g l = record {
  going : Gone (g.W.Write.contents l.fn.self.device) (g.W.Write.contents l.self.device) l.text (drop l.gone l.text);
  within : l.gone ≤ length l.text;
  well : l.self.failed ≡ l.fn.self.failed;
}

abbrev pub decreases-loop-gone : goal.decreases-loop-gone
decreases-loop-gone g l = length l.text - l.gone
