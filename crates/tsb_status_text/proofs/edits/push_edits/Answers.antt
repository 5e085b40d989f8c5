use Rattle.tsb_status_text.proofs.PlanListLemmas.{edit-on}
use Rattle.tsb_status_text.proofs.edits.push_edits.Goals as goal

pub loop-edit-preserved : goal.loop-edit-preserved
loop-edit-preserved c =
    edit-on c.args.edits.now c.loop-edit.edit-index _ c.loop-edit.first c.loop-edit.line c.separate.new.line c.push_edit.new.line _
    c.loop-edit-test.true c.separate.ensures c.push_edit.ensures c.loop-edit.invariant
