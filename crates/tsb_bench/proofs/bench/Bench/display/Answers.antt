use Rattle.std.proofs.Common.{subst}
use Rattle.tsb_heads.specs.Promises.{IsSame}
use Rattle.tsb_heads.specs.Reading.{heads_of}
use Rattle.tsb_step.specs.Signs.{display, IsSafe}
use Rattle.tsb_step.proofs.DisplayLemmas.{display_is_safe}
use Rattle.tsb_bench.specs.Held.{Held, state_of}
use Rattle.tsb_bench.proofs.HeldLemmas.{sound-held}
use Rattle.tsb_bench.proofs.bench.Bench.display.Goals as goal

pub display-requires : goal.display-requires
display-requires c = record { by = (c.self.inside.tick, (sound-held _ _ _ c.self.invariant.1).by) }

pub returns-clause-shown : goal.returns-clause-shown
returns-clause-shown c = subst (λ (h : Held). IsSame (heads_of c.display.result) (display (state_of h))) c.self.view_is (c.display.ensures c.self.inside.tick)

pub returns-clause-safe : goal.returns-clause-safe
returns-clause-safe c = let all = (sound-held _ _ _ c.self.invariant.1).good in subst (λ (h : Held). IsSafe (state_of h)) c.self.view_is (display_is_safe _ all.good all.backed)
