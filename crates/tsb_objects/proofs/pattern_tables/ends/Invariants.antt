use Rattle.std.proofs.Common.{◌≡◌, ℕ, ◌+◌, ◌-◌, ◌*◌, ◌<◌, ◌≤◌, true, Some, get_or, length}
use Rattle.tsb_plan.specs.Parts.{cycle, is_used}
use Rattle.tsb_plan.specs.PlanOf.{plan_of}
use Rattle.tsb_objects.specs.Instants.{force_off, late_end, yields_for}
use Rattle.tsb_objects.specs.PatternTables.{end_behind}
use Rattle.tsb_objects.proofs.pattern_tables.ends.Given as goal

-- the words of the patterns so far are told
abbrev pub invariant-loop-number : goal.invariant-loop-number
invariant-loop-number l = record {
  from_one : 1 ≤ l.number;
  full : length l.words ≡ 256;
  told : (m p : ℕ) → 1 ≤ m → m < l.number → 1 ≤ p → p ≤ 16 → is_used (plan_of l.plan) m ≡ true →
      get_or l.words (16 * (m - 1) + (p - 1)) 0
      ≡ end_behind (cycle (plan_of l.plan) m) (force_off (plan_of l.plan) (Some m) p) (late_end (plan_of l.plan) (Some m) p)
      (yields_for (plan_of l.plan) m p);
}
