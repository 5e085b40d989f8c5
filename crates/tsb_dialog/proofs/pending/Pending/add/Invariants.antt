use Rattle.std.proofs.Common.{◌≡◌, false, take}
use Rattle.tsb_dialog.specs.Said.{Said}
use Rattle.tsb_dialog.proofs.pending.Pending.add.Given as goal

abbrev pub invariant-loop-byte : goal.invariant-loop-byte
invariant-loop-byte g l = record {
  said : Said (g.W.Write.contents l.fn.writer.device) (g.W.Write.contents l.writer.device) l.fn.self l.self (take l.byte-index l.text);
  well : l.fn.writer.failed ≡ false → l.writer.failed ≡ false;
}
