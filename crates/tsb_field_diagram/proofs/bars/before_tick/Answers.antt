use Rattle.std.proofs.Common.{◌≡◌, ap, arith, get_or}
use Rattle.tsb_field_diagram.proofs.BarLemmas.{before-none, before-more, before-all}
use Rattle.tsb_field_diagram.proofs.bars.before_tick.Goals as goal

pub returns-then-from-end : goal.returns-then-from-end
returns-then-from-end g c =
    let tick = g.T.InForce.tick_of in let items = c.args.items.now in let index = c.loop-index.index in
    let here = c.index-items-index.result in
    let is : tick here ≡ tick (get_or items index here) = ap tick c.index-items-index.is in
    before-none tick c.args.end items index here c.loop-index-test.true (omega (arith, is, c.tick.ensures, c.from.ensures, c.if-from-end.true)) c.loop-index.invariant

pub loop-index-preserved : goal.loop-index-preserved
loop-index-preserved g c =
    let tick = g.T.InForce.tick_of in let items = c.args.items.now in let index = c.loop-index.index in
    let here = c.index-items-index.result in
    let is : tick here ≡ tick (get_or items index here) = ap tick c.index-items-index.is in
    before-more tick c.args.end items index here c.loop-index-test.true (omega (arith, is, c.tick.ensures, c.from.ensures, c.if-from-end.false)) c.loop-index.invariant

pub returns : goal.returns
returns g c = before-all g.T.InForce.tick_of c.args.end c.args.items.now c.loop-index.index c.loop-index-test.false c.loop-index.invariant
