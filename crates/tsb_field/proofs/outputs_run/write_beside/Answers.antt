use Rattle.std.proofs.Common.{inr, subst}
use Rattle.tsb_text.specs.tsb_objects.Checked.{checked_plan}
use Rattle.tsb_text.specs.tsb_plan.Plan.{Plan}
use Rattle.tsb_words.specs.FieldWords.{seen_log}
use Rattle.tsb_field.specs.LogEnds.{LoggedWith}
use Rattle.tsb_field.proofs.EndLemmas.{logged-beside, no-plan-at}
use Rattle.tsb_field.proofs.outputs_run.write_beside.Goals as goal

pub returns-in-Ok : goal.returns-in-Ok
returns-in-Ok g c =
    logged-beside (checked_plan c.in-Ok.checked) c.args.path.now c.write_with.result (seen_log c.args.asked.now) (g.F.Files.bytes c.args.files.now) c.args.streams.now c.write_with.new.streams c.in-Ok.ensures.read
    (subst (λ (plan : Plan). LoggedWith plan c.write_with.result (seen_log c.args.asked.now) c.args.streams.now c.write_with.new.streams) c.plan.ensures.plan c.write_with.ensures)

pub returns-in-Err : goal.returns-in-Err
returns-in-Err g c = inr (
  c.refuse_plan.ensures.0,
  no-plan-at c.in-Err.fault c.refuse_plan.result c.args.path.now (g.F.Files.bytes c.args.files.now) c.args.streams.now.errors c.refuse_plan.new.self.errors c.in-Err.ensures.read c.refuse_plan.ensures.1,
)
