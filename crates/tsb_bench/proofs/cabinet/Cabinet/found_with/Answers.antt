use Rattle.std.proofs.Common.{subst, Option}
use Rattle.tsb_objects.specs.Checked.{checked_plan}
use Rattle.tsb_plan.specs.PlanOf.{plan_of}
use Rattle.tsb_types.specs.declared.lamp.Lamp.{Lamp}
use Rattle.tsb_controller.specs.Promises.{IsLit}
use Rattle.tsb_bench.specs.Cabinet.{rows_of}
use Rattle.tsb_bench.proofs.cabinet.Cabinet.found_with.Goals as goal

pub lamp-requires : goal.lamp-requires
lamp-requires c = record { by = (c.requires.by.0, c.requires.by.1.monitor) }

pub light-requires : goal.light-requires
light-requires c = record { rings_by = c.requires.by.1.layers.rings }

pub returns-clause-lit : goal.returns-clause-lit
unfolding checked_plan plan_of
returns-clause-lit c none =
    subst (λ (l : Option Lamp). IsLit l c.args.lamp.now (checked_plan c.args.self.now.plan) (rows_of c.args.self.now).layers c.light.result) c.lamp.ensures c.light.ensures.state
