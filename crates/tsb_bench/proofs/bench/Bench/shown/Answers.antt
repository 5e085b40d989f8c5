use Rattle.std.proofs.Common.{subst, Some}
use Rattle.tsb_heads.specs.Promises.{IsSame}
use Rattle.tsb_heads.specs.Reading.{heads_of}
use Rattle.tsb_step.specs.Signs.{display, IsSafe}
use Rattle.tsb_step.proofs.DisplayLemmas.{display_is_safe}
use Rattle.tsb_bench.specs.Cabinet.{rows_of}
use Rattle.tsb_bench.specs.Held.{Held, state_of}
use Rattle.tsb_bench.specs.Shown.{IsShown}
use Rattle.tsb_bench.proofs.HeldLemmas.{sound-held}
use Rattle.tsb_bench.proofs.bench.Bench.shown.Goals as goal

pub returns-in-Some-clause-shown : goal.returns-in-Some-clause-shown
returns-in-Some-clause-shown c =
    let kept : IsShown (rows_of c.self.inside.cabinet) (Some c.in-Some.shown) = subst (IsShown (rows_of c.self.inside.cabinet)) c.in-Some.is c.self.invariant.3 in
    subst (λ (h : Held). IsSame (heads_of c.in-Some.shown) (display (state_of h))) c.self.view_is (kept c.self.inside.tick)

pub returns-in-Some-clause-safe : goal.returns-in-Some-clause-safe
returns-in-Some-clause-safe c = let all = (sound-held _ _ _ c.self.invariant.1).good in subst (λ (h : Held). IsSafe (state_of h)) c.self.view_is (display_is_safe _ all.good all.backed)

pub display-shown-requires : goal.display-shown-requires
display-shown-requires c = record { by = (c.self.inside.tick, (sound-held _ _ _ c.self.invariant.1).by) }

pub invariant_of-self : goal.invariant_of-self
invariant_of-self c = (c.self.invariant.0, c.self.invariant.1, c.self.invariant.2, c.display-shown.ensures)

pub returns-clause-shown : goal.returns-clause-shown
returns-clause-shown c = subst (λ (h : Held). IsSame (heads_of c.display-shown.result) (display (state_of h))) c.self.view_is (c.display-shown.ensures c.self.inside.tick)

pub returns-clause-safe : goal.returns-clause-safe
returns-clause-safe c = let all = (sound-held _ _ _ c.self.invariant.1).good in subst (λ (h : Held). IsSafe (state_of h)) c.self.view_is (display_is_safe _ all.good all.backed)
