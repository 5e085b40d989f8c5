-- Ticks that leave the cells as they are and find what an earlier one found, where all phases are still.
use Rattle.std.proofs.Common.{◌≡◌, ℕ, ◌-◌, ◌<◌, ◌≤◌, List, sym, ap, ◌∙◌, arith}
use Rattle.tsb_objects.specs.tsb_types.declared.flow.Timing.{Timing}
use Rattle.tsb_objects.specs.tsb_plan.Plan.{Plan}
use Rattle.tsb_phase.specs.declared.conditions.Conditions.{Conditions}
use Rattle.tsb_phase.specs.Phase.{Phase, none_moved}
use Rattle.tsb_phase.specs.Pedestrian.{walks_again}
use Rattle.tsb_phase.specs.Ready.{is_ready, is_over, is_gapped_now, red_revert_passed}
use Rattle.tsb_phase.specs.Next.{next_from_read}
use Rattle.tsb_phase.specs.Cells.{IsBy, row_in, phase_of}
use Rattle.tsb_phase.specs.Promises.{given_of, read_in, IsTicked, TellsReady, TellsOver, TellsRedRevertPassed, TellsGapped, TellsWalks}
use Rattle.tsb_phase.specs.Due.{IsStill}
use Rattle.tsb_phase.proofs.ReadLemmas.{phase_in-row, stays-by, read-in}

-- all phases are still at tick t
abbrev pub AreStill : ℕ → ℕ → Conditions → Plan → List ℕ → Type 0
AreStill now t conditions plan cells = (p : ℕ) → 1 ≤ p → p ≤ 16 → IsStill plan (given_of conditions) p (row_in cells p) now t

module _ (now t : ℕ) (conditions : Conditions) (plan : Plan) (cells : List ℕ) (begun : 1 ≤ now) (by : IsBy (now - 1) cells) (after : now < t)
    (still : AreStill now t conditions plan cells) where
  by-then : IsBy (t - 1) cells
  by-then = stays-by (now - 1) (t - 1) cells (omega (arith, after)) by

  read-now : (p : ℕ) → 1 ≤ p → p ≤ 16 → phase_of now (row_in cells p) ≡ read_in now cells p
  read-now p from within = read-in now cells p begun by from within

  read-then : (p : ℕ) → 1 ≤ p → p ≤ 16 → phase_of t (row_in cells p) ≡ read_in t cells p
  read-then p from within = read-in t cells p (omega (arith, after)) by-then from within

  pub ticked-still : IsTicked t conditions plan cells cells
  ticked-still p from within =
      phase_in-row t cells p from within ∙ (still p from within).state
      ∙ ap (next_from_read plan (given_of conditions) none_moved p) (read-then p from within)

  -- what is found of the phase as tick t reads it
  retold : {A : Type 0} (f : Phase → A) (p : ℕ) → 1 ≤ p → p ≤ 16 → f (phase_of t (row_in cells p)) ≡ f (phase_of now (row_in cells p)) →
      f (read_in now cells p) ≡ f (read_in t cells p)
  retold f p from within same = ap f (sym (read-now p from within)) ∙ sym same ∙ ap f (read-then p from within)

  pub ready-still : (told : Timing) → TellsReady now conditions plan cells told → TellsReady t conditions plan cells told
  ready-still told tells p from within = tells p from within ∙ retold (is_ready plan (given_of conditions) p) p from within (still p from within).ready

  pub over-still : (told : Timing) → TellsOver now plan cells told → TellsOver t plan cells told
  over-still told tells p from within = tells p from within ∙ retold (is_over plan p) p from within (still p from within).over

  pub reverted-still : (told : Timing) → TellsRedRevertPassed now plan cells told → TellsRedRevertPassed t plan cells told
  reverted-still told tells p from within = tells p from within ∙ retold (red_revert_passed plan p) p from within (still p from within).reverted

  pub gapped-still : (told : Timing) → TellsGapped now conditions plan cells told → TellsGapped t conditions plan cells told
  gapped-still told tells p from within =
      tells p from within ∙ retold (λ (x : Phase). is_gapped_now plan (given_of conditions) p x) p from within (still p from within).gapped

  pub walks-still : (told : Timing) → TellsWalks now conditions cells told → TellsWalks t conditions cells told
  walks-still told tells p from within = tells p from within ∙ retold (walks_again (given_of conditions) p) p from within (still p from within).walks
