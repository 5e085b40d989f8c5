use Rattle.std.proofs.Common.{◌≡◌, false}
use Rattle.tsb_dialog.specs.Said.{Wrote}
use Rattle.tsb_text.proofs.EventLemmas.{SaidTo}
use Rattle.tsb_text.proofs.events.say_events.Given as goal

abbrev pub invariant-loop-event : goal.invariant-loop-event
invariant-loop-event g l = record {
  wrote : Wrote (g.W.Write.contents l.fn.writer.device) (g.W.Write.contents l.writer.device) l.fn.pending l.pending (SaidTo l.events l.event-index);
  well : l.fn.writer.failed ≡ false → l.writer.failed ≡ false;
}
