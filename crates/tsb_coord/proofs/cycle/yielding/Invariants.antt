use Rattle.std.proofs.Common.{◌≡◌, ℕ, ◌≤◌, true, false, Some}
use Rattle.tsb_objects.specs.tsb_types.Sets.{has, size}
use Rattle.tsb_objects.specs.Checked.{checked_plan}
use Rattle.tsb_objects.specs.tsb_plan.Running.{is_coordinated_now}
use Rattle.tsb_coord.specs.Cycle.{yields_at}
use Rattle.tsb_coord.proofs.cycle.yielding.Given as goal

abbrev pub decreases-loop-p : goal.decreases-loop-p
decreases-loop-p l = size l.rest

-- the phases taken out so far are judged; those that are left are coordinated, and none of them is in the set
abbrev pub invariant-loop-p : goal.invariant-loop-p
invariant-loop-p l = record {
  told : (p : ℕ) → 1 ≤ p → p ≤ 16 → has l.rest p ≡ false → has l.yielding p ≡ yields_at (checked_plan l.plan) l.n l.places.last l.places.first p;
  within : (p : ℕ) → 1 ≤ p → p ≤ 16 → has l.rest p ≡ true → is_coordinated_now (checked_plan l.plan) (Some l.n) p ≡ true;
  left : (p : ℕ) → has l.rest p ≡ true → has l.yielding p ≡ false;
}
