use Rattle.std.proofs.Common.{subst}
use Rattle.tsb_bench.specs.Held.{Held, state_of}
use Rattle.tsb_bench.specs.Schedule.{StaysInMinute}
use Rattle.tsb_bench.proofs.HeldLemmas.{sound-held}
use Rattle.tsb_bench.proofs.bench.Bench.ends_minute.Goals as goal

pub ends_minute-requires-clause-by : goal.ends_minute-requires-clause-by
ends_minute-requires-clause-by c = (sound-held _ _ _ c.self.invariant.1).by

pub ends_minute-requires-clause-limit : goal.ends_minute-requires-clause-limit
ends_minute-requires-clause-limit c = (sound-held _ _ _ c.self.invariant.1).limit

pub returns : goal.returns
returns c = λ off. subst (λ (h : Held). StaysInMinute (state_of h)) c.self.view_is (c.ends_minute.ensures off)
