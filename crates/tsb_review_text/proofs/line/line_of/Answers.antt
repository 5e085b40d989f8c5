use Rattle.std.proofs.Common.{◌∙◌, ◌++◌, ◌∷◌, [], flat_map, ap, arith, rules}
use Rattle.tsb_review_text.specs.Lines.{also, filled, line_of, value_name}
use Rattle.tsb_review_text.specs.Templates.{wording}
use Rattle.tsb_review.specs.Findings.{unused_value}
use Rattle.tsb_types.specs.Lists.{run_from}
use Rattle.tsb_plan.specs.PlanOf.{plan_of}
use Rattle.tsb_review_text.proofs.LineLemmas.{line-done}
use Rattle.tsb_review_text.proofs.line.line_of.Goals as goal

pub returns : goal.returns
unfolding line_of
returns c =
    line-done c.numbers_of-numbers.result (plan_of c.args.plan.now) c.args.finding.now c.unused_value.result _ _ _ _ _ _
    (record { a = first_of (search rules, first_of (omega arith, grind (arith, rules))); b = first_of (search rules, first_of (omega arith, grind (arith, rules))); c = first_of (search rules, first_of (omega arith, grind (arith, rules))); d = first_of (search rules, first_of (omega arith, grind (arith, rules))); e = first_of (search rules, first_of (omega arith, grind (arith, rules))) })
    c.new-line.ensures c.wording.ensures c.unused_value.ensures c.push_value_name.ensures.short c.all.ensures c.push_parts.ensures c.push_value_name.ensures.line c.push_patterns.ensures
    ∙ ap (λ n. filled n (wording (plan_of c.args.plan.now) c.args.finding.now) ++ (value_name (unused_value (plan_of c.args.plan.now) c.args.finding.now) ++ (flat_map (also (plan_of c.args.plan.now) c.args.finding.now) (run_from 1 16) ++ 10 ∷ []))) c.numbers_of-numbers.ensures
