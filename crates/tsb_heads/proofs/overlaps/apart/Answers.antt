use Rattle.std.proofs.Common.{Bool, not, sym, ◌∙◌, ap, refl}
use Rattle.tsb_heads.proofs.OverlapLemmas.{and-same, with-option, without-option}
use Rattle.tsb_heads.proofs.overlaps.apart.Goals as goal

pub returns-then-contains : goal.returns-then-contains
returns-then-contains c = λ p.
    c.difference.ensures p
    ∙ and-same _ _ _ _ refl
    (ap (λ (b : Bool). not b) (c.concurrent_to.ensures.row p) ∙ with-option _ _ (sym c.contains.ensures ∙ c.if-contains.true))

pub returns-else-contains : goal.returns-else-contains
returns-else-contains c = λ p.
    c.empty.ensures p ∙ sym (without-option _ _ _ (sym c.contains.ensures ∙ c.if-contains.false))
