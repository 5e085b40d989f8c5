use Rattle.std.proofs.Common.{◌≡◌, ℕ, ◌≤◌, ◌&&◌, not, true}
use Rattle.tsb_step.specs.tsb_types.Sets.{has, has_number, size}
use Rattle.tsb_phase.specs.declared.cause.Cause.TheVariants.{ForceOff, Gap, Maximum}
use Rattle.tsb_phase.specs.Causes.{cause}
use Rattle.tsb_phase.specs.Layer.{cells_of}
use Rattle.tsb_phase.specs.Promises.{given_of, read_in}
use Rattle.tsb_objects.specs.Checked.{checked_plan}
use Rattle.tsb_step.specs.Events.{is_cause}
use Rattle.tsb_controller.proofs.causes.causes_of.Given as goal

abbrev pub decreases-loop-p : goal.decreases-loop-p
decreases-loop-p l = size l.rest

-- each set has those of the phases taken out so far that it is for
abbrev pub invariant-loop-p : goal.invariant-loop-p
invariant-loop-p l = record {
  within : (n : ℕ) → has l.rest n ≡ true → has l.fn.ended n ≡ true;
  gap : (n : ℕ) → 1 ≤ n → n ≤ 16 → has_number l.causes.gap n
      ≡ ((has l.fn.ended n && not (has l.rest n)) && is_cause Gap (cause (checked_plan l.plan) (given_of l.conditions) n (read_in l.now (cells_of l.phases) n)));
  maximum : (n : ℕ) → 1 ≤ n → n ≤ 16 → has_number l.causes.maximum n
      ≡ ((has l.fn.ended n && not (has l.rest n)) && is_cause Maximum (cause (checked_plan l.plan) (given_of l.conditions) n (read_in l.now (cells_of l.phases) n)));
  force_off : (n : ℕ) → 1 ≤ n → n ≤ 16 → has_number l.causes.force_off n
      ≡ ((has l.fn.ended n && not (has l.rest n)) && is_cause ForceOff (cause (checked_plan l.plan) (given_of l.conditions) n (read_in l.now (cells_of l.phases) n)));
}
