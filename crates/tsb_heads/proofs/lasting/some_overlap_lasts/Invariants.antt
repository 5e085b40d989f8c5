use Rattle.std.proofs.Common.{◌≡◌, ℕ, ◌<◌, ◌≤◌, false}
use Rattle.tsb_objects.specs.Checked.{checked_plan}
use Rattle.tsb_heads.specs.Heads.{Shown}
use Rattle.tsb_heads.specs.Overlaps.{lasts}
use Rattle.tsb_heads.specs.Served.{IsServed}
use Rattle.tsb_heads.proofs.lasting.some_overlap_lasts.Given as goal

-- none of the overlaps gone over lasts
abbrev pub invariant-loop-number : goal.invariant-loop-number
invariant-loop-number l = record {
  from : 1 ≤ l.number;
  none : (s : Shown) → IsServed (checked_plan l.plan) s l.served → (o : ℕ) → 1 ≤ o → o < l.number → lasts (checked_plan l.plan) s o ≡ false;
}
