use Rattle.std.proofs.Common.{◌≡◌, ℕ, ◌&&◌, true, false, Some}
use Rattle.tsb_plan.specs.Parts.{cycle}
use Rattle.tsb_types.specs.Sets.{has, size}
use Rattle.tsb_objects.specs.Checked.{checked_plan}
use Rattle.tsb_objects.specs.Instants.{force_off, walk_and_clearance, is_left}
use Rattle.tsb_objects.proofs.checked.Checked.with_time_to_walk.Given as goal

abbrev pub decreases-loop-p : goal.decreases-loop-p
decreases-loop-p l = size l.rest

-- what is left is of the phases, and all others are told
abbrev pub invariant-loop-p : goal.invariant-loop-p
invariant-loop-p l = record {
  within : (p : ℕ) → has l.rest p ≡ true → has l.initial.rest p ≡ true;
  told : (p : ℕ) → has l.rest p ≡ false →
      has l.set p ≡ (has l.initial.rest p && is_left (cycle (checked_plan l.self) l.n) (walk_and_clearance (checked_plan l.self) p) (Some l.local) (force_off (checked_plan l.self) (Some l.n) p));
}
