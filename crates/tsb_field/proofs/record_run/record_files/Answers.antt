use Rattle.std.proofs.Common.{inr}
use Rattle.tsb_text.specs.tsb_objects.Checked.{checked_plan}
use Rattle.tsb_field.specs.Ends.{options_of}
use Rattle.tsb_field.proofs.EndLemmas.{no-plan, recorded-on}
use Rattle.tsb_field.proofs.record_run.record_files.Goals as goal

pub returns-in-Ok : goal.returns-in-Ok
returns-in-Ok g c =
    let asked = c.args.asked.now in
    recorded-on c.record_plan.result asked.from asked.device.now (options_of asked.from asked.manner) (checked_plan c.in-Ok.checked) asked.plan.now asked.log.now (g.F.Files.bytes c.args.files.now)
    c.args.streams.now c.record_plan.new.streams c.in-Ok.ensures.read c.record_plan.ensures

pub returns-in-Err : goal.returns-in-Err
returns-in-Err g c =
    let asked = c.args.asked.now in
    inr (
      c.refuse_plan.ensures.0,
      no-plan c.in-Err.fault c.refuse_plan.result asked.plan.now asked.log.now (g.F.Files.bytes c.args.files.now) c.args.streams.now.errors c.refuse_plan.new.self.errors c.in-Err.ensures.read
          c.refuse_plan.ensures.1,
    )
