use Rattle.std.proofs.Common.{◌≡◌, ◌&&◌, ◌||◌, not, Bool, true, false, refl, sym, ◌∙◌, ap}
use Rattle.tsb_objects.specs.tsb_types.Lists.{some_passes, run_from}
use Rattle.tsb_objects.specs.tsb_types.Sets.{has}
use Rattle.tsb_calls.proofs.PassLemmas.{passes-not}
use Rattle.tsb_calls.proofs.callable.callable.Goals as goal

and-true-right : (f s : Bool) → (f && s) ≡ (f && (s && true))
and-true-right true true = refl
and-true-right true false = refl
and-true-right false s = refl

soft : (t f s some : Bool) → t ≡ false → some ≡ false → (f && s) ≡ (t || (f && (s && not some)))
soft t f s some no_test none = rw (no_test, none) (and-true-right f s)

pub returns-else-has_some : goal.returns-else-has_some
returns-else-has_some c = λ test same p from within.
    let none : some_passes test (run_from 1 16) ≡ false =
    sym (c.has_some.ensures test (λ q low high. c.intersection-otherwise.ensures q ∙ same q low high)) ∙ c.if-has_some.false in
    c.intersection-softly.ensures p
    ∙ ap (λ (b : Bool). has c.args.free p && b) (c.soft_recall.ensures p)
    ∙ soft (test p) (has c.args.free p) _ _ (passes-not test p none from within) none
