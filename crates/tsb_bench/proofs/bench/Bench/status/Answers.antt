use Rattle.std.proofs.Common.{subst}
use Rattle.tsb_step.specs.Status.{status}
use Rattle.tsb_status.specs.Alike.{Alike}
use Rattle.tsb_status.specs.Plain.{status_of}
use Rattle.tsb_bench.specs.Held.{Held, state_of}
use Rattle.tsb_bench.proofs.HeldLemmas.{sound-held}
use Rattle.tsb_bench.proofs.bench.Bench.status.Goals as goal

pub status-requires-clause-by : goal.status-requires-clause-by
status-requires-clause-by c = (sound-held _ _ _ c.self.invariant.1).by

pub status-requires-clause-limit : goal.status-requires-clause-limit
status-requires-clause-limit c = (sound-held _ _ _ c.self.invariant.1).limit

pub returns : goal.returns
returns c = subst (λ (h : Held). Alike (status_of c.status.result) (status (state_of h))) c.self.view_is c.status.ensures
