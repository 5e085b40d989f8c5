use Rattle.std.proofs.Common.{get_or, refl}
use Rattle.tsb_dialog.proofs.SaidLemmas.{said-byte, said-front}
use Rattle.tsb_dialog.proofs.pending.Pending.add.Goals as goal

pub returns-in_err-push-clause-front : goal.returns-in_err-push-clause-front
returns-in_err-push-clause-front g c = said-front _ _ _ _ _ _ c.args.text.now c.loop-byte.byte-index c.loop-byte.invariant.said c.in_err-push.ensures.fault

pub loop-byte-preserved : goal.loop-byte-preserved
loop-byte-preserved g c = record {
  said = said-byte _ _ _ _ _ _ c.args.text.now c.loop-byte.byte-index (get_or c.args.text.now c.loop-byte.byte-index 0) c.loop-byte-test.true refl c.loop-byte.invariant.said c.in_ok-push.ensures.ok;
  well = λ w. c.in_ok-push.ensures.blame (c.loop-byte.invariant.well w);
}
