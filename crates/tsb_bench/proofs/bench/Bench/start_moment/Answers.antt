use Rattle.std.proofs.Common.{◌∙◌, ap}
use Rattle.tsb_bench.specs.Held.{Held, state_of}
use Rattle.tsb_bench.proofs.HeldLemmas.{sound-held}
use Rattle.tsb_bench.proofs.bench.Bench.start_moment.Goals as goal

pub start-requires : goal.start-requires
start-requires c = record { pattern_by = (sound-held _ _ _ c.self.invariant.1).by.layers.pattern }

pub returns-clause-value : goal.returns-clause-value
returns-clause-value c = c.start.ensures.value ∙ ap (λ (h : Held). (state_of h).start_moment) c.self.view_is

pub returns-clause-counted : goal.returns-clause-counted
returns-clause-counted c = c.start.ensures.counted
