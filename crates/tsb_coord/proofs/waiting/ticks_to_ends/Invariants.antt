use Rattle.std.proofs.Common.{◌≡◌, ℕ, ◌+◌, ◌%◌, ◌<◌, ◌≤◌, ◌⊎◌, false, Some}
use Rattle.tsb_objects.specs.Checked.{checked_plan}
use Rattle.tsb_objects.specs.tsb_plan.Parts.{cycle}
use Rattle.tsb_coord.specs.Coordinated.{permissive_end, recycle_end, agree}
use Rattle.tsb_coord.specs.Due.{IsEnded}
use Rattle.tsb_coord.proofs.waiting.ticks_to_ends.Given as goal

-- no permissive time and no time for a walk so far ends earlier
abbrev pub invariant-loop-number : goal.invariant-loop-number
invariant-loop-number l = record {
  from_one : 1 ≤ l.number;
  some : 1 ≤ l.ticks;
  within : l.ticks ≤ cycle (checked_plan l.plan) l.n;
  permitted : (p k : ℕ) → 1 ≤ p → p < l.number → 1 ≤ k → k < l.ticks →
      agree (Some ((l.local + k) % cycle (checked_plan l.plan) l.n)) (permissive_end (checked_plan l.plan) (Some l.n) p) ≡ false;
  recycled : (p k : ℕ) → 1 ≤ p → p < l.number → 1 ≤ k → k < l.ticks →
      agree (Some ((l.local + k) % cycle (checked_plan l.plan) l.n)) (recycle_end (checked_plan l.plan) (Some l.n) p) ≡ false;
  met : (l.ticks ≡ cycle (checked_plan l.plan) l.n)
      ⊎ (((p : ℕ) × IsEnded (cycle (checked_plan l.plan) l.n) l.local (permissive_end (checked_plan l.plan) (Some l.n) p) l.ticks)
      ⊎ ((p : ℕ) × IsEnded (cycle (checked_plan l.plan) l.n) l.local (recycle_end (checked_plan l.plan) (Some l.n) p) l.ticks));
}
