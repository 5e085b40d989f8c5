-- As the built-in plan of two phases meets the rules, no rule that it breaks is ever found.
use Rattle.std.proofs.Common.{◌≡◌, ◌∙◌, Option, Some, None, ap}
use Rattle.tsb_text.specs.tsb_plan.Plan.{Plan}
use Rattle.tsb_text.specs.tsb_plan.Two.{two}
use Rattle.tsb_text.specs.tsb_rules.declared.rules.Rule.{Rule}
use Rattle.tsb_text.specs.tsb_rules.Rules.{first_broken}
use Rattle.tsb_text.proofs.tsb_rules.TwoLemmas.{two-meets}

not-both : (found : Option Rule) (rule : Rule) → found ≡ None → found ≡ Some rule → ⊥
not-both found rule none some = cc

pub two-breaks-none : (plan : Plan) (rule : Rule) → plan ≡ two → first_broken plan ≡ Some rule → ⊥
two-breaks-none plan rule is breaks = not-both (first_broken plan) rule (ap first_broken is ∙ two-meets) breaks
