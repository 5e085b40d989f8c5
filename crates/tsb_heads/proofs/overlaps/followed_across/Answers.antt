use Rattle.std.proofs.Common.{◌≡◌, ℕ, ◌&&◌, ◌||◌, not, sym, ◌∙◌, ap, is_some, refl}
use Rattle.tsb_objects.specs.tsb_types.Intervals.{is_yellow, is_red_clear}
use Rattle.tsb_objects.specs.tsb_types.Sets.{has}
use Rattle.tsb_objects.specs.tsb_plan.Plan.{ring_of, is_concurrent}
use Rattle.tsb_objects.specs.tsb_rules.PatternRules.{some_and}
use Rattle.tsb_objects.specs.Checked.{checked_plan}
use Rattle.tsb_heads.specs.Overlaps.{other_ring, comes_across}
use Rattle.tsb_heads.proofs.OverlapLemmas.{and-same, or-same, some_and-same, across-by}
use Rattle.tsb_heads.proofs.overlaps.followed_across.Goals as goal

pub returns : goal.returns
returns c = λ s is p.
    let plan = checked_plan c.args.plan.now in
    let seen = c.args.served.now in
    let comes : (q : ℕ) → (has c.args.included q && not (is_concurrent plan q p)) ≡ comes_across plan c.args.o p q = λ q. and-same _ _ _ _ (c.requires q) refl in
    let same = some_and-same (λ q. has c.args.included q && not (is_concurrent plan q p)) (comes_across plan c.args.o p) comes in
    c.union.ensures p
    ∙ or-same _ _ _ _ (c.crossing.ensures p ∙ and-same _ _ _ _ (is.clearing_1 p) (and-same _ _ _ _ refl (same seen.ring_2)))
    (c.crossing-2.ensures p ∙ and-same _ _ _ _ (is.clearing_2 p) (and-same _ _ _ _ refl (same seen.ring_1)))
    ∙ across-by (comes_across plan c.args.o p) (is_yellow (s.interval p) || is_red_clear (s.interval p)) (ring_of plan p) seen.ring_1 seen.ring_2
    ∙ and-same _ _ _ _ refl
    (and-same _ _ _ _ (ap (λ o. is_some o) (sym (is.commitment (ring_of plan p))))
    (ap (λ o. some_and (comes_across plan c.args.o p) o) (sym (is.commitment (other_ring (ring_of plan p))))))
