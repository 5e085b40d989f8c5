-- Ticks that leave all detectors as they are.
use Rattle.std.proofs.Common.{◌≡◌, ℕ, ◌+◌, ◌-◌, ◌%◌, ◌<◌, ◌≤◌, false, List, arith, inl, inr}
use Rattle.std.proofs.lemmas.Bool.Decides.{eqb_tells}
use Rattle.tsb_objects.specs.tsb_types.declared.limits.TheConstants.{VEHICLE_DETECTORS}
use Rattle.tsb_objects.specs.tsb_types.declared.row.Row.{Row}
use Rattle.tsb_objects.specs.tsb_types.Sets.{has_detector}
use Rattle.tsb_objects.specs.tsb_plan.Plan.{Plan}
use Rattle.tsb_detect.specs.Detector.{is_minute}
use Rattle.tsb_detect.specs.Cells.{IsBy, row_in}
use Rattle.tsb_detect.specs.Promises.{IsQuiet}
use Rattle.tsb_detect.specs.Rows.{IsSettled, is_due, is_tested}
use Rattle.tsb_detect.proofs.ReadLemmas.{rows-read, ticked}
use Rattle.tsb_detect.proofs.NextLemmas.{settled-visit}
use Rattle.tsb_detect.proofs.ToldLemmas.{detectors-later}

pub in-minute : (now wait t : ℕ) → wait ≤ 600 - now % 600 → now < t → t < now + wait → is_minute t ≡ false
in-minute now wait t within after before =
    elim (eqb_tells (t % 600) 0) [
      | inl whole ↦ absurd (omega (arith, whole.1, within, after, before))
      | inr part ↦ part.0
    ]

pub rows-range : (now : ℕ) (cells : List ℕ) → IsBy now cells → (d : ℕ) → 1 ≤ d → d ≤ VEHICLE_DETECTORS → (row_in cells d).change ≤ now + 1
rows-range now cells by d from to = (by.each d from to).change

pub quiet-ticks : (now wait : ℕ) (row : Row) (plan : Plan) (cells : List ℕ) → IsBy now cells → wait ≤ 600 - now % 600 →
    ((d : ℕ) → IsSettled (has_detector row.vehicles d) (row_in cells d)) →
    ((t d : ℕ) → now < t → t < now + wait → 1 ≤ d → d ≤ VEHICLE_DETECTORS → is_tested t plan d (has_detector row.vehicles d) (row_in cells d).change ≡ false) →
    IsQuiet now (now + wait) row plan cells
quiet-ticks now wait row plan cells by within settled tested t greens after before =
    ticked t row greens plan cells cells begun read (λ d from to.
    settled-visit t plan d (has_detector row.vehicles d) _ (row_in cells d) (rows-read t cells begun read d from to) (settled d) (not-due d from to))
  where
    begun : 1 ≤ t
    begun = omega (arith, after)

    read : IsBy (t - 1) cells
    read = detectors-later now (t - 1) cells (omega (arith, after)) by

    not-due : (d : ℕ) → 1 ≤ d → d ≤ VEHICLE_DETECTORS → is_due t plan d (has_detector row.vehicles d) (row_in cells d).change ≡ false
    not-due d from to = rw (in-minute now wait t within after before) (tested t d after before from to)
