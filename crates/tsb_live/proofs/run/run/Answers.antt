use Rattle.std.proofs.Common.{inr}
use Rattle.tsb_live.proofs.StopLemmas.{stops}
use Rattle.tsb_live.proofs.run.run.Goals as goal

pub returns-in-Err : goal.returns-in-Err
returns-in-Err g c = inr (
  c.refuse_plan.ensures.0,
  stops c.in-Err.fault c.args.path.now _ c.refuse_plan.result c.args.streams.now.errors c.refuse_plan.new.self.errors c.in-Err.ensures.read c.refuse_plan.ensures.1,
)
