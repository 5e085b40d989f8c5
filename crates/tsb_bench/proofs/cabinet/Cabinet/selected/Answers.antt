use Rattle.std.proofs.Common.{refl}
use Rattle.tsb_objects.specs.Checked.{checked_plan}
use Rattle.tsb_plan.specs.PlanOf.{plan_of}
use Rattle.tsb_bench.specs.Cabinet.{rows_of}
use Rattle.tsb_bench.proofs.InputLemmas.{beside}
use Rattle.tsb_bench.proofs.cabinet.Cabinet.selected.Goals as goal

pub returns : goal.returns
unfolding checked_plan plan_of
returns c now = c.selected.ensures now (beside (rows_of c.args.self.now)) refl
