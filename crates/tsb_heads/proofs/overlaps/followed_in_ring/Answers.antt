use Rattle.std.proofs.Common.{◌||◌, sym, ◌∙◌, ap, refl}
use Rattle.tsb_objects.specs.tsb_types.Intervals.{is_yellow, is_red_clear}
use Rattle.tsb_objects.specs.tsb_plan.Parts.{is_included}
use Rattle.tsb_objects.specs.Checked.{checked_plan}
use Rattle.tsb_heads.proofs.OverlapLemmas.{and-same, or-same, some_and-same, followed-by}
use Rattle.tsb_objects.specs.tsb_types.Sets.{has}
use Rattle.tsb_objects.specs.tsb_plan.Plan.{ring_of}
use Rattle.tsb_objects.specs.tsb_rules.PatternRules.{some_and}
use Rattle.tsb_heads.proofs.overlaps.followed_in_ring.Goals as goal

pub returns : goal.returns
returns c = λ s is p.
    let seen = c.args.served.now in
    let included = some_and-same (has c.args.included) (is_included (checked_plan c.args.plan.now) c.args.o) c.requires in
    c.union.ensures p
    ∙ or-same _ _ _ _ (c.following.ensures p ∙ and-same _ _ _ _ (is.clearing_1 p) (included seen.ring_1))
    (c.following-2.ensures p ∙ and-same _ _ _ _ (is.clearing_2 p) (included seen.ring_2))
    ∙ followed-by (is_included (checked_plan c.args.plan.now) c.args.o) (is_yellow (s.interval p) || is_red_clear (s.interval p)) (ring_of (checked_plan c.args.plan.now) p) seen.ring_1 seen.ring_2
    ∙ and-same _ _ _ _ refl (ap (λ o. some_and (is_included (checked_plan c.args.plan.now) c.args.o) o) (sym (is.commitment (ring_of (checked_plan c.args.plan.now) p))))
