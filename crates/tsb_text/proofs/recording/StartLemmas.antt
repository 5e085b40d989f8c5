-- How a record begins: with no input, or with that of its clock and what follows it.
use Rattle.std.proofs.Common.{◌≡◌, ℕ, List, [], ◌∷◌, Some, None, sym, subst}
use Rattle.tsb_bench.specs.Held.{whole}
use Rattle.tsb_step.specs.declared.inputs.Input.{Input}
use Rattle.tsb_step.specs.declared.inputs.Input.TheVariants.{Clock}
use Rattle.tsb_step.specs.declared.log_form.LogForm.{LogForm}
use Rattle.tsb_step.specs.Play.{Follows}
use Rattle.tsb_log_text.specs.declared.log.LogRow.{LogRow}
use Rattle.tsb_text.specs.declared.course.Mode.{Mode}
use Rattle.tsb_text.specs.declared.course.Mode.TheVariants.{Recording}
use Rattle.tsb_text.specs.Answers.{Leads, Setup, followers}
use Rattle.tsb_text.specs.Obeyed.{FollowedAll, IsKept, IsTold, OnCourse, Stands}
use Rattle.tsb_text.specs.recording.Leaves.{BeginsWith}
use Rattle.tsb_text.specs.recording.Told.{nothing_told}

-- no input has reached a record that begins
pub record-begins : (given : Setup) (log : List LogRow) (course : OnCourse) (form : LogForm) → course.mode ≡ Recording form → given.log ≡ log → course.rows ≡ log → Follows given.plan (whole course.bench) []
    → course.told.told ≡ nothing_told → course.acts ≡ given.acts → course.is_wide ≡ given.is_wide → Stands given log course []
record-begins given log course form recording same rows follows told acts wide = record {
  same = same;
  rows = rows;
  follows = follows;
  keeps = subst (λ (m : Mode). IsKept m course.kept.kept given.plan []) (sym recording) tt;
  tells = subst (λ (m : Mode). IsTold m course.told.told given []) (sym recording) (told, tt);
  acts = acts;
  wide = wide;
}

-- its clock is set first, and what follows that is taken
pub clock-begins : (given : Setup) (log : List LogRow) (mid new : OnCourse) (m : ℕ) → mid.next ≡ followers given [] (Clock m) → FollowedAll None given log mid.next new (Clock m ∷ [])
    → (first : List Input) × BeginsWith given (Some m) first × Stands given log new first
clock-begins given log mid new m next followed =
    (followed.0, subst (λ (n : List Input). Leads given (Clock m ∷ []) n None followed.0) next followed.1, followed.2)
