use Rattle.std.proofs.Common.{◌&&◌, not, ◌∙◌, is_some, refl}
use Rattle.tsb_objects.specs.tsb_types.Sets.{has}
use Rattle.tsb_objects.specs.tsb_plan.Plan.{is_concurrent}
use Rattle.tsb_objects.specs.tsb_rules.PatternRules.{some_and}
use Rattle.tsb_objects.specs.Checked.{checked_plan}
use Rattle.tsb_heads.proofs.OverlapLemmas.{and-same, and-apart}
use Rattle.tsb_heads.proofs.overlaps.crossing.Goals as goal

pub returns : goal.returns
returns c = λ p.
    c.barred.ensures p ∙ and-same _ _ _ _ (c.committed-bound.ensures p) refl
    ∙ and-apart (has c.args.clearing p) (is_some c.args.own)
    (some_and (λ q. has c.args.included q && not (is_concurrent (checked_plan c.args.plan.now) q p)) c.args.other)
