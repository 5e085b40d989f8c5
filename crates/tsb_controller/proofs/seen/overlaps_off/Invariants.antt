use Rattle.std.proofs.Common.{◌≡◌, ℕ, ◌+◌, ◌<◌, ◌≤◌, false}
use Rattle.tsb_step.specs.tsb_types.declared.limits.TheConstants.{OVERLAPS}
use Rattle.tsb_step.specs.tsb_types.Sets.{has_number}
use Rattle.tsb_objects.specs.Checked.{checked_plan}
use Rattle.tsb_controller.specs.Seen.{is_off_beside}
use Rattle.tsb_controller.proofs.seen.overlaps_off.Given as goal

-- the overlaps before this one are told, and none after them
abbrev pub invariant-loop-number : goal.invariant-loop-number
invariant-loop-number l = record {
  from : 1 ≤ l.number;
  to : l.number ≤ OVERLAPS + 1;
  rest : (o : ℕ) → l.number ≤ o → has_number l.off o ≡ false;
  told : (o : ℕ) → 1 ≤ o → o < l.number → has_number l.off o ≡ is_off_beside (checked_plan l.plan) l.lit l.served o;
}
