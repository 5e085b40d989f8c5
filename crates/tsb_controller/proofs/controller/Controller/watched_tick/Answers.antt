use Rattle.std.proofs.Common.{ap, is_some}
use Rattle.tsb_heads.specs.Reading.{heads_of_field}
use Rattle.tsb_objects.specs.Checked.{checked_plan}
use Rattle.tsb_controller.specs.Layer.{rows_of}
use Rattle.tsb_controller.proofs.CauseLemmas.{judged-cause}
use Rattle.tsb_controller.proofs.PlacedLemmas.{placed}
use Rattle.tsb_controller.proofs.WatchLemmas.{unlit, watched-tick}
use Rattle.tsb_controller.proofs.controller.Controller.watched_tick.Goals as goal

pub returns-in-Some-clause-state : goal.returns-in-Some-clause-state
returns-in-Some-clause-state c =
    watched-tick c.args.now c.args.row.now c.args.lamp (checked_plan c.args.plan.now) (rows_of c.args.self.now) (rows_of c.tick.new.self) c.in-Some.before c.field.result c.judge.result
    (placed c.args.plan.now).count (placed c.args.plan.now).overlaps (rw c.in-Some.is at c.lit_field-before.ensures.shown) c.field.ensures c.tick.ensures.state c.judge.ensures

pub returns-in-Some-clause-cause : goal.returns-in-Some-clause-cause
returns-in-Some-clause-cause c =
    judged-cause (checked_plan c.args.plan.now) (placed c.args.plan.now).count (heads_of_field c.in-Some.before) (heads_of_field c.field.result) c.judge.result c.judge.ensures

pub returns-in-None-clause-state : goal.returns-in-None-clause-state
returns-in-None-clause-state c =
    unlit c.args.now c.args.row.now (checked_plan c.args.plan.now) c.args.lamp (rows_of c.args.self.now) (rows_of c.tick.new.self) (ap is_some (c.lit_field-before.ensures.none c.in-None.is)) c.requires.good c.tick.ensures.state
