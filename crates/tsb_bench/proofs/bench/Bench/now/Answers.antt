use Rattle.std.proofs.Common.{◌∙◌, ap, subst}
use Rattle.tsb_step.specs.Backed.{AreBacked}
use Rattle.tsb_step.specs.Good.{IsGood}
use Rattle.tsb_step.specs.Past.{earlier}
use Rattle.tsb_bench.specs.Held.{Held, whole, ticks}
use Rattle.tsb_bench.proofs.HeldLemmas.{sound-held, sound-ticks, sound-earlier}
use Rattle.tsb_bench.proofs.bench.Bench.now.Goals as goal

pub returns-clause-limit : goal.returns-clause-limit
returns-clause-limit c = (sound-held _ _ _ c.self.invariant.1).limit

pub returns-clause-ticks : goal.returns-clause-ticks
returns-clause-ticks c = sound-ticks _ _ _ c.self.invariant.1 ∙ ap (λ (h : Held). ticks h.records) c.self.view_is

pub returns-clause-good : goal.returns-clause-good
returns-clause-good c k = subst (λ (h : Held). IsGood (earlier (whole h) k).state) c.self.view_is (sound-earlier k _ _ _ c.self.invariant.1).good

pub returns-clause-backed : goal.returns-clause-backed
returns-clause-backed c k = subst (λ (h : Held). AreBacked (earlier (whole h) k).state) c.self.view_is (sound-earlier k _ _ _ c.self.invariant.1).backed
