use Rattle.std.proofs.Common.{◌≡◌, ◌≢◌, ℕ, ◌+◌, ◌-◌, ◌*◌, ◌<◌, ◌≤◌, Some, get_or, length}
use Rattle.tsb_plan.specs.Parts.{cycle}
use Rattle.tsb_plan.specs.PlanOf.{plan_of}
use Rattle.tsb_objects.specs.Instants.{force_off, late_end, yields_for}
use Rattle.tsb_objects.specs.PatternTables.{end_behind}
use Rattle.tsb_objects.proofs.pattern_tables.put_ends.Given as goal

-- the words of the phases so far are told, and those of other patterns are as they were
abbrev pub invariant-loop-number : goal.invariant-loop-number
invariant-loop-number l = record {
  from_one : 1 ≤ l.number;
  full : length l.words ≡ 256;
  told : (p : ℕ) → 1 ≤ p → p < l.number →
      get_or l.words (16 * (l.fn.n - 1) + (p - 1)) 0
      ≡ end_behind (cycle (plan_of l.plan) l.fn.n) (force_off (plan_of l.plan) (Some l.fn.n) p) (late_end (plan_of l.plan) (Some l.fn.n) p)
      (yields_for (plan_of l.plan) l.fn.n p);
  others : (m p : ℕ) → m ≢ l.fn.n → 1 ≤ m → 1 ≤ p → p ≤ 16 →
      get_or l.words (16 * (m - 1) + (p - 1)) 0 ≡ get_or l.initial.words (16 * (m - 1) + (p - 1)) 0;
}
