use Rattle.std.proofs.Common.{sym, ◌∙◌, refl}
use Rattle.tsb_heads.proofs.OverlapLemmas.{and-same, with-option, without-option}
use Rattle.tsb_heads.proofs.overlaps.followed_by_option.Goals as goal

pub returns-then-overlaps_across_rings : goal.returns-then-overlaps_across_rings
returns-then-overlaps_across_rings c = λ s is p.
    c.followed_across.ensures s is p
    ∙ and-same _ _ _ _ refl (with-option _ _ (sym c.overlaps_across_rings.ensures ∙ c.if-overlaps_across_rings.true))

pub returns-else-overlaps_across_rings : goal.returns-else-overlaps_across_rings
returns-else-overlaps_across_rings c = λ s is p.
    c.empty.ensures p ∙ sym (without-option _ _ _ (sym c.overlaps_across_rings.ensures ∙ c.if-overlaps_across_rings.false))
