use Rattle.std.proofs.Common.{◌+◌, ◌-◌, ◌<◌, ap, arith, subst}
use Rattle.tsb_objects.specs.Checked.{checked_plan}
use Rattle.tsb_overlap.specs.Cells.{IsBy}
use Rattle.tsb_controller.specs.Layer.{rows_of}
use Rattle.tsb_controller.specs.Passing.{IsSettled}
use Rattle.tsb_controller.specs.Rows.{Rows}
use Rattle.tsb_controller.proofs.PassLemmas.{none-rose, passes}
use Rattle.tsb_controller.proofs.PlacedLemmas.{placed}
use Rattle.tsb_controller.proofs.controller.Controller.due.Goals as goal

pub phases_due-phases-requires-clause-calm : goal.phases_due-phases-requires-clause-calm
phases_due-phases-requires-clause-calm c =
    none-rose c.args.now (c.args.now + 1) c.args.row.now (checked_plan c.args.plan.now) (rows_of c.args.self.now) c.others_due-others.result
    (omega arith) (omega arith) c.others_due-others.ensures.still

pub others_due-others-requires-clause-were : goal.others_due-others-requires-clause-were
others_due-others-requires-clause-were c =
    let it : IsSettled c.args.now c.args.row.now (checked_plan c.args.plan.now) (rows_of c.args.self.now) = c.requires.settled in
    subst (IsBy (c.args.now - 1)) (ap (λ (r : Rows). r.overlaps) it.rest) it.by.overlaps

pub returns-clause-quiet : goal.returns-clause-quiet
returns-clause-quiet c = λ t behind before.
    let early : t < c.phases_due-phases.result = omega arith in
    let earlier : t < c.others_due-others.result = omega arith in
    passes c.args.now (checked_plan c.args.plan.now) c.args.row.now (rows_of c.args.self.now) c.phases_due-phases.result c.others_due-others.result t
    c.requires.begun (placed c.args.plan.now) c.requires.by c.requires.settled c.phases_due-phases.ensures.still c.others_due-others.ensures.still behind early earlier
