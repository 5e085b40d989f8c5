-- What is known of each checked plan.
use Rattle.std.proofs.Common.{◌≡◌, refl}
use Rattle.tsb_objects.specs.declared.checked.Checked.{Checked}
use Rattle.tsb_objects.specs.Checked.{checked_plan}
use Rattle.tsb_plan.specs.PlanOf.{plan_of}

-- how many phases there are
pub checked-phase_count : (checked : Checked) → (checked_plan checked).phase_count ≡ 16
unfolding checked_plan plan_of
checked-phase_count checked = refl
