use Rattle.std.proofs.Common.{◌∙◌, ◌++◌, ◌∷◌, [], ap, arith, rules}
use Rattle.tsb_review_text.specs.BreachTemplates.{breach_template}
use Rattle.tsb_review_text.specs.Lines.{breach_line, filled}
use Rattle.tsb_review_text.proofs.LineLemmas.{breach-line-done}
use Rattle.tsb_review_text.proofs.line.breach_line.Goals as goal

pub returns : goal.returns
unfolding breach_line
returns c =
    breach-line-done c.numbers_of-numbers.result c.args.breach.now.fault _ _ _
    (record { a = first_of (search rules, first_of (omega arith, grind (arith, rules))); b = first_of (search rules, first_of (omega arith, grind (arith, rules))); c = first_of (search rules, first_of (omega arith, grind (arith, rules))); d = first_of (search rules, first_of (omega arith, grind (arith, rules))); e = first_of (search rules, first_of (omega arith, grind (arith, rules))) })
    c.new-line.ensures c.breach_template.ensures c.push_parts.ensures
    ∙ ap (λ n. filled n (breach_template c.args.breach.now.fault) ++ 10 ∷ []) c.numbers_of-numbers.ensures
