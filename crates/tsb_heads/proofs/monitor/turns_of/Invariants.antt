use Rattle.std.proofs.Common.{◌≡◌, ℕ, true, false, ◌&&◌}
use Rattle.tsb_objects.specs.tsb_types.Sets.{has, has_number, size_of_numbers}
use Rattle.tsb_objects.specs.tsb_plan.Parts.{is_arrow}
use Rattle.tsb_objects.specs.Checked.{checked_plan}
use Rattle.tsb_heads.specs.Monitoring.{is_green}
use Rattle.tsb_heads.specs.Reading.{heads_of}
use Rattle.tsb_heads.proofs.ArrowLemmas.{IsGreenArrow}
use Rattle.tsb_heads.proofs.monitor.turns_of.Given as goal

abbrev pub decreases-loop-number : goal.decreases-loop-number
decreases-loop-number l = size_of_numbers l.rest

-- what is left is a green arrow; what is found is a turn of one; and the turns of those that are not left are found
abbrev pub invariant-loop-number : goal.invariant-loop-number
invariant-loop-number l = record {
  left : (o : ℕ) → has_number l.rest o ≡ true →
      (is_arrow (checked_plan l.plan) o && is_green ((heads_of l.heads).overlap o)) ≡ true;
  found : (p : ℕ) → has l.turns p ≡ true → (o : ℕ) × IsGreenArrow (checked_plan l.plan) (heads_of l.heads) p o;
  turned : (o p : ℕ) → IsGreenArrow (checked_plan l.plan) (heads_of l.heads) p o → has_number l.rest o ≡ false → has l.turns p ≡ true;
}
