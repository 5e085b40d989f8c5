use Rattle.std.proofs.Common.{arith}
use Rattle.tsb_plan_notes.specs.Places.{start}
use Rattle.tsb_plan_notes.proofs.StopLemmas.{stops}
use Rattle.tsb_plan_notes.proofs.laws.texts_stop_whatever_follows.Goals as goal

pub returns : goal.returns
returns c text more s is lt = stops start 0 text more s is (omega (arith, lt))
