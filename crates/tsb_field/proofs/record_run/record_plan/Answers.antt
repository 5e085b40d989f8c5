use Rattle.std.proofs.Common.{inl, inr}
use Rattle.tsb_field.proofs.EndLemmas.{stops-there}
use Rattle.tsb_field.proofs.record_run.record_plan.Goals as goal

pub returns-in-Ok : goal.returns-in-Ok
returns-in-Ok g c = inl (c.in-Ok.rows, c.in-Ok.ensures.read, c.record_run.ensures)

pub returns-in-Err : goal.returns-in-Err
returns-in-Err g c = inr (
  c.refuse.ensures.0,
  stops-there c.in-Err.fault c.refuse.result c.args.asked.now.log.now (g.F.Files.bytes c.args.files.now) c.args.streams.now.errors c.refuse.new.self.errors c.in-Err.ensures.read c.refuse.ensures.1,
)
