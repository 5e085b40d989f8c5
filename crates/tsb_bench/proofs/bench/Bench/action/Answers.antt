use Rattle.std.proofs.Common.{◌∙◌, ap}
use Rattle.tsb_step.specs.Following.{action}
use Rattle.tsb_bench.specs.Held.{Held, state_of}
use Rattle.tsb_bench.proofs.HeldLemmas.{sound-held}
use Rattle.tsb_bench.proofs.bench.Bench.action.Goals as goal

pub action-requires-clause-by : goal.action-requires-clause-by
action-requires-clause-by c = (sound-held _ _ _ c.self.invariant.1).by

pub action-requires-clause-limit : goal.action-requires-clause-limit
action-requires-clause-limit c = (sound-held _ _ _ c.self.invariant.1).limit

pub returns-clause-value : goal.returns-clause-value
returns-clause-value c = c.action.ensures.value ∙ ap (λ (h : Held). action (state_of h)) c.self.view_is

pub returns-clause-to : goal.returns-clause-to
returns-clause-to c = c.action.ensures.to
