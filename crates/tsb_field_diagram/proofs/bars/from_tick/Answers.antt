use Rattle.std.proofs.Common.{◌≡◌, ◌∙◌, ◌+◌, ap, arith, get_or}
use Rattle.tsb_field_diagram.proofs.BarLemmas.{from-more, stop-late, stop-last}
use Rattle.tsb_field_diagram.proofs.bars.from_tick.Goals as goal
use Rattle.tsb_field_diagram.proofs.bars.from_tick.Goals.{then-loop-from-test+else-from-first, else-loop-from-test}

pub loop-from-preserved : goal.loop-from-preserved
loop-from-preserved g c =
    let tick = g.T.InForce.tick_of in let items = c.args.items.now in let from = c.loop-from.from in
    let next = c.index-items-from.result in
    let is : tick next ≡ tick (get_or items (from + 1) next) = ap tick c.index-items-from.is in
    record {
      within = omega (arith, c.loop-from-test.true);
      same =
          from-more tick c.args.first items from next (omega (arith, c.loop-from-test.true)) (omega (arith, is, c.tick.ensures, c.from.ensures, c.if-from-first.true))
          ∙ c.loop-from.invariant.same;
    }

pub returns : goal.returns
returns g c =
    let tick = g.T.InForce.tick_of in let items = c.args.items.now in let from = c.loop-from.from in
    elim c.loop-from-test.branch [
      | then-loop-from-test+else-from-first w ↦
          let next = w.index-items-from.result in
          let is : tick next ≡ tick (get_or items (from + 1) next) = ap tick w.index-items-from.is in
          stop-late tick c.args.first items from next (omega (arith, w.loop-from-test.true)) (omega (arith, is, w.tick.ensures, w.from.ensures, w.if-from-first.false))
          c.loop-from.invariant.same
      | else-loop-from-test w ↦
          stop-last tick c.args.first items from (omega (arith, w.loop-from-test.false)) c.loop-from.invariant.same
    ]
