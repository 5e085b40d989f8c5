use Rattle.std.proofs.Common.{refl, sym}
use Rattle.tsb_objects.specs.Checked.{checked_plan}
use Rattle.tsb_plan.specs.PlanOf.{plan_of}
use Rattle.tsb_bench.specs.Cabinet.{rows_of}
use Rattle.tsb_bench.proofs.InputLemmas.{beside}
use Rattle.tsb_bench.proofs.cabinet.Cabinet.red_timings.Goals as goal

pub returns : goal.returns
unfolding checked_plan plan_of
returns c p from to = c.red_timings.ensures c.args.tick (beside (rows_of c.args.self.now)) refl (sym c.is_tripped-tripped.ensures) (sym c.clock.ensures) p from to
