use Rattle.std.proofs.Common.{refl, sym}
use Rattle.tsb_objects.specs.Checked.{checked_plan}
use Rattle.tsb_plan.specs.PlanOf.{plan_of}
use Rattle.tsb_bench.specs.Cabinet.{rows_of}
use Rattle.tsb_bench.proofs.InputLemmas.{beside}
use Rattle.tsb_bench.proofs.cabinet.Cabinet.display.Goals as goal

pub display-requires : goal.display-requires
display-requires c = record { rings_by = c.requires.by.1.layers.rings }

pub returns : goal.returns
unfolding checked_plan plan_of
returns c now = c.display.ensures now (beside (rows_of c.args.self.now)) refl (sym c.is_tripped.ensures)
