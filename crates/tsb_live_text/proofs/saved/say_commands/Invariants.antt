use Rattle.std.proofs.Common.{◌≡◌, drop, false}
use Rattle.json.specs.Print.{escape}
use Rattle.tsb_live_text.specs.saved.Saved.{commands_from}
use Rattle.tsb_live_text.proofs.saved.SaysLemmas.{Saying}
use Rattle.tsb_live_text.proofs.saved.say_commands.Given as goal

abbrev pub invariant-loop-other : goal.invariant-loop-other
invariant-loop-other g l = record {
  saying : Saying (escape (commands_from l.now l.others 0)) (escape (commands_from l.now (drop l.other-index l.others) l.tick)) (g.W.Write.contents l.fn.writer.device) (g.W.Write.contents l.writer.device) l.fn.pending l.pending;
  well : l.fn.writer.failed ≡ false → l.writer.failed ≡ false;
}
