use Rattle.std.proofs.Common.{◌≡◌, ℕ, ◌<◌, ◌≤◌, false}
use Rattle.tsb_plan.specs.Parts.{is_arrow}
use Rattle.tsb_plan.specs.PlanOf.{plan_of}
use Rattle.tsb_types.specs.Sets.{has_number}
use Rattle.tsb_objects.proofs.part_tables.arrows_of.Given as goal

-- the set says so of the numbers up to here, and has no other
abbrev pub invariant-loop-number : goal.invariant-loop-number
invariant-loop-number l = record {
  from_one : 1 ≤ l.number;
  told : (n : ℕ) → n < l.number → has_number l.set n ≡ is_arrow (plan_of l.plan) n;
  rest : (n : ℕ) → l.number ≤ n → has_number l.set n ≡ false;
}
