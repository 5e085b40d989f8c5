use Rattle.std.proofs.Common.{◌∙◌, ap}
use Rattle.tsb_objects.specs.Checked.{checked_plan}
use Rattle.tsb_phase.specs.Causes.{cause}
use Rattle.tsb_phase.specs.Cells.{phase_of}
use Rattle.tsb_phase.specs.Promises.{given_of}
use Rattle.tsb_phase.specs.Layer.{cells_of}
use Rattle.tsb_phase.specs.declared.phase_row.PhaseRow.{PhaseRow}
use Rattle.tsb_phase.proofs.ReadLemmas.{read-in}
use Rattle.tsb_phase.proofs.phases.Phases.cause.Goals as goal

pub returns : goal.returns
returns c =
    let plan = checked_plan c.args.plan.now in
    let given = given_of c.args.conditions.now in
    c.found_cause.ensures
    ∙ ap (λ (r : PhaseRow). cause plan given c.args.p (phase_of c.args.now r)) c.load-was.ensures
    ∙ ap (cause plan given c.args.p) (read-in c.args.now (cells_of c.args.self.now) c.args.p c.requires.begun c.requires.by c.known.ensures.from c.known.ensures.within)
