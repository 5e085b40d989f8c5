use Rattle.std.proofs.Common.{◌∙◌, ◌<◌, ◌≤◌, ℕ, subst, sym}
use Rattle.tsb_text.proofs.LaterLemmas.{drop-later, none-later}
use Rattle.tsb_text.proofs.later.drop_later.Goals as goal

pub returns-then-tick : goal.returns-then-tick
returns-then-tick g c =
    sym (none-later g.T.Timed.at c.args.tick c.deref.result.now c.loop-last.things.items c.in-Some.last.now c.deref.ensures.value c.in-Some.ensures.item.3.0 c.in-Some.ensures.item.1
    (subst (λ (n : ℕ). n ≤ c.args.tick) c.tick.ensures c.if-tick.true))
    ∙ c.loop-last.invariant

pub loop-last-preserved : goal.loop-last-preserved
loop-last-preserved g c =
    drop-later g.T.Timed.at c.args.tick c.deref.result.now c.loop-last.things.items c.pop.new.self.items c.in-Some.last.now _ c.deref.ensures.value c.deref.ensures.len
    c.in-Some.ensures.item.3.0 c.in-Some.ensures.item.1
    (subst (λ (n : ℕ). c.args.tick < n) c.tick.ensures c.if-tick.false) c.pop.ensures.rest
    ∙ c.loop-last.invariant
