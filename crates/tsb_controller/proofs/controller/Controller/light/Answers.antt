use Rattle.tsb_heads.specs.Reading.{heads_of_field}
use Rattle.tsb_objects.specs.Checked.{checked_plan}
use Rattle.tsb_controller.specs.Layer.{rows_of}
use Rattle.tsb_controller.proofs.CauseLemmas.{judged-cause}
use Rattle.tsb_controller.proofs.PlacedLemmas.{placed}
use Rattle.tsb_controller.proofs.WatchLemmas.{lit}
use Rattle.tsb_controller.proofs.controller.Controller.light.Goals as goal

pub returns-clause-state : goal.returns-clause-state
returns-clause-state c =
    lit c.args.was.now c.args.lamp.now (checked_plan c.args.plan.now) (rows_of c.args.self.now) c.field.result c.field-2.result c.judge.result
    (placed c.args.plan.now).count (placed c.args.plan.now).overlaps c.field.ensures c.field-2.ensures c.judge.ensures

pub returns-clause-cause : goal.returns-clause-cause
returns-clause-cause c =
    judged-cause (checked_plan c.args.plan.now) (placed c.args.plan.now).count (heads_of_field c.field.result) (heads_of_field c.field-2.result) c.judge.result c.judge.ensures
