use Rattle.std.proofs.Common.{sym, ap, ◌∙◌}
use Rattle.tsb_step.specs.tsb_plan.Plan.{Plan}
use Rattle.tsb_coord.specs.Cells.{pattern_in, correction_in}
use Rattle.tsb_coord.specs.Correction.{local_now}
use Rattle.tsb_coord.specs.Layer.{cells_of}
use Rattle.tsb_controller.proofs.controller.Controller.local.Goals as goal

pub returns : goal.returns
returns c b same =
    let row = cells_of c.args.self.now.coord in
    c.local.ensures ∙ ap (λ (plan : Plan). local_now plan (pattern_in row) (correction_in row) c.args.now) (sym same)
