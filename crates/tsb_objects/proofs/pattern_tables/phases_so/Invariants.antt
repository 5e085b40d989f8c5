use Rattle.std.proofs.Common.{◌≡◌, ℕ, ◌<◌, ◌≤◌, false}
use Rattle.tsb_plan.specs.Parts.{unless_zero}
use Rattle.tsb_plan.specs.PlanOf.{plan_of}
use Rattle.tsb_types.specs.Sets.{has}
use Rattle.tsb_objects.specs.PatternTables.{is_so}
use Rattle.tsb_objects.proofs.pattern_tables.phases_so.Given as goal

-- the phases so far are told, and no other is in the set
abbrev pub invariant-loop-number : goal.invariant-loop-number
invariant-loop-number l = record {
  from_one : 1 ≤ l.number;
  told : (p : ℕ) → 1 ≤ p → p < l.number → has l.set p ≡ is_so l.asked (plan_of l.plan) (unless_zero l.fn.k) p;
  rest : (p : ℕ) → l.number ≤ p → has l.set p ≡ false;
}
