use Rattle.std.proofs.Common.{rules, ◌∙◌, refl, arith}
use Rattle.tsb_events.proofs.SplitLemmas.{all-told, next-told}
use Rattle.tsb_events.proofs.pattern.tell_splits.Goals as goal

pub loop-k-preserved : goal.loop-k-preserved
loop-k-preserved c = record {
  told = next-told _ c.loop-k.k _ c.loop-k.events.items _ refl c.loop-k-test.true (search rules) ∙ c.loop-k.invariant.told;
  room = omega (arith, c.tell_value.ensures.few, c.loop-k.invariant.room);
}

pub returns-clause-told : goal.returns-clause-told
returns-clause-told c = all-told _ c.loop-k.k _ _ c.loop-k-test.false c.loop-k.invariant.told
