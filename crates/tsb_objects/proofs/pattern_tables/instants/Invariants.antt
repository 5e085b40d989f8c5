use Rattle.std.proofs.Common.{◌≡◌, ℕ, ◌+◌, ◌-◌, ◌*◌, ◌<◌, ◌≤◌, true, Some, get_or, length}
use Rattle.tsb_plan.specs.Parts.{is_used}
use Rattle.tsb_plan.specs.PlanOf.{plan_of}
use Rattle.tsb_objects.specs.Instants.{force_off}
use Rattle.tsb_objects.specs.PatternTables.{instant_in}
use Rattle.tsb_objects.proofs.pattern_tables.instants.Given as goal

-- the words of the patterns so far are told
abbrev pub invariant-loop-number : goal.invariant-loop-number
invariant-loop-number l = record {
  from_one : 1 ≤ l.number;
  full : length l.words ≡ 256;
  told : (m p : ℕ) → 1 ≤ m → m < l.number → 1 ≤ p → p ≤ 16 → is_used (plan_of l.plan) m ≡ true →
      instant_in (get_or l.words (16 * (m - 1) + (p - 1)) 0) ≡ force_off (plan_of l.plan) (Some m) p;
}
