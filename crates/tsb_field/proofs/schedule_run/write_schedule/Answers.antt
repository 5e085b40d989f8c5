use Rattle.std.proofs.Common.{inl, subst}
use Rattle.tsb_program.specs.Devices.{ReadsNothing}
use Rattle.tsb_text.specs.tsb_objects.Checked.{checked_plan}
use Rattle.tsb_text.specs.tsb_plan.Plan.{Plan}
use Rattle.tsb_field.specs.Ends.{RunsWeek}
use Rattle.tsb_field.proofs.EndLemmas.{no-week}
use Rattle.tsb_field.proofs.schedule_run.write_schedule.Goals as goal

pub returns-in-Ok : goal.returns-in-Ok
returns-in-Ok g c =
    let written = subst (λ (p : Plan). ReadsNothing (RunsWeek c.args.svg c.write_either.result p c.args.week) c.args.streams.now c.write_either.new.streams) c.plan.ensures.plan c.write_either.ensures in
    (written.0, inl (checked_plan c.in-Ok.plan, c.in-Ok.ensures.read, written.1))

pub returns-in-Err : goal.returns-in-Err
returns-in-Err g c = (
  c.refuse_plan.ensures.0.0,
  no-week c.in-Err.fault c.refuse_plan.result c.args.path.now c.args.week c.args.svg (g.F.Files.bytes c.args.files.now c.args.path.now) c.args.streams.now.output c.refuse_plan.new.self.output
      c.args.streams.now.errors c.refuse_plan.new.self.errors c.in-Err.ensures.read c.refuse_plan.ensures.0.1 c.refuse_plan.ensures.1,
)
