use Rattle.std.proofs.Common.{arith, sym, ◌∙◌, refl}
use Rattle.tsb_objects.proofs.PassLemmas.{pass-one, pass-none}
use Rattle.tsb_calls.proofs.callable.has_some.Goals as goal

pub returns-in-Some : goal.returns-in-Some
returns-in-Some c = λ test same.
    sym (pass-one test 1 16 c.in-Some.p (sym (same c.in-Some.p c.known.ensures.from c.known.ensures.within) ∙ c.in-Some.ensures.had)
    c.known.ensures.from (let w = c.known.ensures.within in omega (arith, w)))

pub returns-in-None : goal.returns-in-None
returns-in-None c = λ test same.
    sym (pass-none test 1 16 (λ p from below. sym (same p from (omega (arith, below))) ∙ c.in-None.ensures.none refl p))
