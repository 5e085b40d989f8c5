use Rattle.std.proofs.Common.{◌≡◌, ℕ, ◌+◌, ◌%◌, ◌<◌, ◌≤◌, ◌⊎◌, false, Some}
use Rattle.tsb_objects.specs.Checked.{checked_plan}
use Rattle.tsb_objects.specs.tsb_plan.Parts.{cycle}
use Rattle.tsb_coord.specs.Coordinated.{force_off, agree}
use Rattle.tsb_coord.specs.Due.{IsMet}
use Rattle.tsb_coord.proofs.waiting.ticks_to_instant.Given as goal

-- no phase so far is forced off earlier
abbrev pub invariant-loop-number : goal.invariant-loop-number
invariant-loop-number l = record {
  from_one : 1 ≤ l.number;
  some : 1 ≤ l.ticks;
  within : l.ticks ≤ l.cycle;
  quiet : (p k : ℕ) → 1 ≤ p → p < l.number → k < l.ticks → 1 < l.ticks →
      agree (Some ((l.local + k) % cycle (checked_plan l.plan) l.n)) (force_off (checked_plan l.plan) (Some l.n) p) ≡ false;
  met : (l.ticks ≡ l.cycle) ⊎ ((p : ℕ) × IsMet l.cycle l.local (force_off (checked_plan l.plan) (Some l.n) p) l.ticks);
}
