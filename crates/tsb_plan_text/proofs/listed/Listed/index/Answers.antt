use Rattle.std.proofs.Common.{arith, sym, ◌∙◌}
use Rattle.tsb_plan_text.proofs.NumberLemmas.{index_found, index_over, index_none}
use Rattle.tsb_plan_text.proofs.TableLemmas.{few_indices, range_is}
use Rattle.tsb_plan_text.proofs.listed.Listed.index.Goals as goal

pub returns-in_err-index-clause-named : goal.returns-in_err-index-clause-named
returns-in_err-index-clause-named c =
    let few = few_indices c.args.self.version c.args.self.object in
    c.from_residual.ensures ∙ sym (index_none _ c.args.text.now (omega (arith, few)) c.in_err-index.ensures)

pub returns-then-index-last-clause-named : goal.returns-then-index-last-clause-named
returns-then-index-last-clause-named c =
    let r = range_is c.args.self.version c.args.self.object c.args.self.range c.args.self.ranged in
    let found = c.in_ok-index.ensures in
    sym (index_found _ c.args.text.now c.in_ok-index.index found.0 found.2 (omega (arith, r.indices, c.if-index-last.true)) found.1)

pub returns-else-index-last-clause-named : goal.returns-else-index-last-clause-named
returns-else-index-last-clause-named c =
    let r = range_is c.args.self.version c.args.self.object c.args.self.range c.args.self.ranged in
    let found = c.in_ok-index.ensures in
    sym (index_over _ c.args.text.now c.in_ok-index.index found.2 (omega (arith, r.indices, c.if-index-last.false)) found.1)
