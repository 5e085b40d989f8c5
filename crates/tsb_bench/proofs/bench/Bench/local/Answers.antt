use Rattle.std.proofs.Common.{◌∙◌, ap, refl}
use Rattle.tsb_objects.specs.Checked.{checked_plan}
use Rattle.tsb_plan.specs.PlanOf.{plan_of}
use Rattle.tsb_step.specs.Signs.{local}
use Rattle.tsb_bench.specs.Cabinet.{rows_of}
use Rattle.tsb_bench.specs.Held.{Held, state_of}
use Rattle.tsb_bench.proofs.HeldLemmas.{sound-held}
use Rattle.tsb_bench.proofs.InputLemmas.{beside}
use Rattle.tsb_bench.proofs.bench.Bench.local.Goals as goal

pub local-requires-clause-pattern_by : goal.local-requires-clause-pattern_by
local-requires-clause-pattern_by c = (sound-held _ _ _ c.self.invariant.1).by.layers.pattern

pub local-requires-clause-in_time : goal.local-requires-clause-in_time
local-requires-clause-in_time c = (sound-held _ _ _ c.self.invariant.1).limit

pub returns : goal.returns
unfolding checked_plan plan_of
returns c = c.local.ensures (beside (rows_of c.self.inside.cabinet)) refl ∙ ap (λ (h : Held). local (state_of h)) c.self.view_is
