use Rattle.std.proofs.lemmas.Grind.{get_or_default_zero}
use Rattle.std.proofs.Common.{[], ◌∷◌, ◌∙◌, ap}
use Rattle.tsb_plan.specs.PlanOf.{plan_of}
use Rattle.tsb_review_text.specs.Lines.{also}
use Rattle.tsb_lines.proofs.ShortLemmas.{said}
use Rattle.tsb_review_text.proofs.LineLemmas.{part-on}
use Rattle.tsb_review_text.proofs.line.push_patterns.Goals as goal

pub loop-pattern-preserved : goal.loop-pattern-preserved
loop-pattern-preserved c =
    part-on (also (plan_of c.args.plan.now) c.args.finding.now) (10 ∷ []) c.args.patterns.now c.loop-pattern.pattern-index c.loop-pattern.line c.push_pattern.new.line _
    c.loop-pattern-test.true (said (ap (also (plan_of c.args.plan.now) c.args.finding.now) (c.pattern-item.is ∙ get_or_default_zero c.args.patterns.now c.loop-pattern.pattern-index c.pattern-item.result c.loop-pattern-test.true)) c.push_pattern.ensures) c.loop-pattern.invariant
