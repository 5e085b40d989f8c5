use Rattle.std.proofs.Common.{inr}
use Rattle.tsb_text.specs.tsb_objects.Checked.{checked_plan}
use Rattle.tsb.proofs.ReadLemmas.{stops-log, stops-plan}
use Rattle.tsb.proofs.run.run.Goals as goal

pub returns-in-Err : goal.returns-in-Err
returns-in-Err g c = inr (
  c.refuse_plan.ensures.0,
  stops-plan c.in-Err.fault c.refuse_plan.result c.args.plan.now c.args.log.now (g.F.Files.bytes c.args.files.now) c.args.streams.now.errors
      c.refuse_plan.new.self.errors c.in-Err.ensures.read c.refuse_plan.ensures.1,
)

pub returns-in-Err-log_of : goal.returns-in-Err-log_of
returns-in-Err-log_of g c = inr (
  c.refuse.ensures.0,
  stops-log c.in-Err-log_of.fault (checked_plan c.in-Ok.checked) c.refuse.result c.args.plan.now c.args.log.now (g.F.Files.bytes c.args.files.now) c.args.streams.now.errors
      c.refuse.new.self.errors c.in-Ok.ensures.read c.in-Err-log_of.ensures.read c.refuse.ensures.1,
)
