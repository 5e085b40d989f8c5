use Rattle.std.proofs.Common.{◌&&◌, not, sym, ◌∙◌, ap, refl}
use Rattle.tsb_objects.specs.tsb_types.Sets.{has}
use Rattle.tsb_objects.specs.tsb_plan.Plan.{is_concurrent}
use Rattle.tsb_objects.specs.tsb_rules.PatternRules.{some_and}
use Rattle.tsb_objects.specs.Checked.{checked_plan}
use Rattle.tsb_heads.proofs.OverlapLemmas.{and-same}
use Rattle.tsb_heads.proofs.overlaps.barred.Goals as goal

pub returns-in-Some : goal.returns-in-Some
returns-in-Some c = λ p.
    c.apart.ensures p
    ∙ and-same _ _ _ _ refl
    (ap (λ o. some_and (λ q. has c.args.included q && not (is_concurrent (checked_plan c.args.plan.now) q p)) o) (sym c.in-Some.is))
