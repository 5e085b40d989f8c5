use Rattle.std.proofs.Common.{◌∙◌, ap}
use Rattle.tsb_bench.specs.Held.{Held, state_of}
use Rattle.tsb_bench.proofs.HeldLemmas.{sound-held}
use Rattle.tsb_bench.proofs.bench.Bench.tripped.Goals as goal

pub trip-requires : goal.trip-requires
trip-requires c = record { by = (c.self.inside.tick, (sound-held _ _ _ c.self.invariant.1).by.monitor) }

pub returns : goal.returns
returns c = c.trip.ensures ∙ ap (λ (h : Held). (state_of h).trip) c.self.view_is
