use Rattle.std.proofs.Common.{[], ◌≡◌, ◌≤◌, ◌-◌, drop, false, length}
use Rattle.tsb_dialog.specs.Said.{Said}
use Rattle.tsb_dialog.proofs.pending.Pending.write_out.Given as goal

abbrev pub invariant-loop-self : goal.invariant-loop-self
invariant-loop-self g l = record {
  said : Said (g.W.Write.contents l.fn.writer.device) (g.W.Write.contents l.writer.device) l.fn.self (drop l.self-inside.gone l.self-inside.bytes.items) [];
  within : l.self-inside.gone ≤ length l.self-inside.bytes.items;
  well : l.fn.writer.failed ≡ false → l.writer.failed ≡ false;
}

abbrev pub decreases-loop-self : goal.decreases-loop-self
decreases-loop-self g l = length l.self-inside.bytes.items - l.self-inside.gone
