-- What holds of all breaches of a plan. Each law here is the contract of a function in src/laws.rt.
use Rattle.std.specs.Prelude.{◌≡◌, ◌↔◌, ℕ, List, [], ◌∷◌, Option, Some, None}
use Rattle.tsb_plan.specs.declared.object.Object.{Object}
use Rattle.tsb_plan.specs.Plan.{Plan, all_counts}
use Rattle.tsb_rules.specs.declared.rules.Rule.{Rule}
use Rattle.tsb_rules.specs.Rules.{first_broken}
use Rattle.tsb_breaches.specs.declared.breach.Breach.{Breach}
use Rattle.tsb_breaches.specs.Breaches.{breaches, rule_of}

-- the plan with these values, of 16 phases and 4 sides, as each plan in memory is
abbrev pub of_values : (Object → ℕ → ℕ) → Plan
of_values v = record { phase_count = 16; side_count = 4; counts = all_counts; value = v }

-- the rule that the first of some breaches is of
abbrev pub first_rule : List Breach → Option Rule
first_rule [] = None
first_rule (b ∷ bs) = Some (rule_of b.fault)

-- the first breach is of the first rule that the plan breaks
abbrev pub FirstIsFirstBroken : Type 0
FirstIsFirstBroken = (v : Object → ℕ → ℕ) → first_rule (breaches (of_values v)) ≡ first_broken (of_values v)

-- there is no breach exactly where the plan breaks no rule
abbrev pub NoneWhereConsistent : Type 0
NoneWhereConsistent = (v : Object → ℕ → ℕ) → (breaches (of_values v) ≡ []) ↔ (first_broken (of_values v) ≡ None)
