use Rattle.std.proofs.Common.{◌+◌, ◌∙◌}
use Rattle.tsb_plan.specs.PlanOf.{plan_of}
use Rattle.tsb_status_text.proofs.TokenLemmas.{entries-done, entry-on, on-ok}
use Rattle.tsb_status_text.proofs.plan.write_table.Goals as goal

pub loop-index-preserved : goal.loop-index-preserved
loop-index-preserved c = record {
  told =
      entry-on (plan_of c.args.plan.now) c.args.of c.loop-index.index (c.indices-index-end.result + 1) c.at.result c.loop-index.writer.tokens c.write_entry.new.writer.tokens _
      c.loop-index-test.true c.at.ensures.value c.in_ok-write_entry.ensures.tokens c.loop-index.invariant.told;
  before = c.write_entry.ensures.before ∙ c.loop-index.invariant.before;
}

pub returns-clause-tokens : goal.returns-clause-tokens
returns-clause-tokens c =
    on-ok c.end_object.result c.end_object.ensures.ok
    (λ closes. entries-done (plan_of c.args.plan.now) c.args.of c.loop-index.index (c.indices-index-end.result + 1) c.loop-index.writer.tokens c.end_object.new.self.tokens _
    c.loop-index-test.false closes c.loop-index.invariant.told)
