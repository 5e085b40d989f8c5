use Rattle.std.proofs.Common.{◌≡◌, ℕ, ◌<◌, ◌≤◌, get_or, length}
use Rattle.tsb_plan.specs.Parts.{unless_zero}
use Rattle.tsb_plan.specs.PlanOf.{plan_of}
use Rattle.tsb_types.specs.Sets.{names}
use Rattle.tsb_objects.specs.PatternTables.{is_so}
use Rattle.tsb_objects.proofs.pattern_tables.in_effect.Given as goal

-- the words so far are told
abbrev pub invariant-loop-k : goal.invariant-loop-k
invariant-loop-k l = record {
  full : length l.words ≡ 17;
  told : (j p : ℕ) → j < l.k → 1 ≤ p → p ≤ 16 → names (get_or l.words j 0) p ≡ is_so l.asked (plan_of l.plan) (unless_zero j) p;
}
