use Rattle.std.proofs.Common.{◌≡◌, ℕ, ◌<◌, ◌≤◌, nat_le, false}
use Rattle.tsb_plan.specs.PlanOf.{plan_of}
use Rattle.tsb_types.specs.Sets.{has_detector}
use Rattle.tsb_objects.proofs.tables.detectors_with.Given as goal

-- the set has the numbers so far that it should, and no other
abbrev pub invariant-loop-number : goal.invariant-loop-number
invariant-loop-number l = record {
  from_one : 1 ≤ l.number;
  told : (n : ℕ) → n < l.number → has_detector l.set n ≡ nat_le 1 ((plan_of l.plan).value l.object n);
  rest : (n : ℕ) → l.number ≤ n → has_detector l.set n ≡ false;
}
