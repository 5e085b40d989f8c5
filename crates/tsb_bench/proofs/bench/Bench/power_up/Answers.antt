use Rattle.std.proofs.Common.{◌∙◌, sym, subst}
use Rattle.tsb_objects.specs.Checked.{checked_plan}
use Rattle.tsb_step.specs.Backed.{IsGoodInAll}
use Rattle.tsb_bench.specs.Cabinet.{rows_of}
use Rattle.tsb_bench.proofs.HeldLemmas.{sound-start, good-start}
use Rattle.tsb_bench.proofs.bench.Bench.power_up.Goals as goal

pub invariant_of-result : goal.invariant_of-result
unfolding checked_plan
invariant_of-result c = (
  c.in-Ok.ensures.shut,
  sound-start (rows_of c.in-Ok.cabinet) c.reserve.new.self.records c.in-Ok.ensures.by c.in-Ok.cabinet.plan.plan.ranged
      c.in-Ok.cabinet.desk.row.sound (subst IsGoodInAll (sym c.in-Ok.ensures.state) (good-start c.args.plan)) (c.reserve.ensures.same ∙ c.new-history.ensures.records),
  c.in-Ok.ensures.passing 0,
  tt,
)

pub returns : goal.returns
returns c = λ i. record { state = c.in-Ok.ensures.state i; records = (c.reserve.ensures.same ∙ c.new-history.ensures.records) i }
