-- What a record of an input says of the layers' rows: their cells are one after another among all cells of the bench.
use Rattle.std.specs.Prelude.{ℕ, ◌≤◌, List, ◌++◌, length}
use Rattle.tsb_cells.specs.Diff.{diff, apply_diff, part, shifted}
use Rattle.tsb_detect.specs.declared.TheConstants.{CELLS as DETECTOR_CELLS}
use Rattle.tsb_calls.specs.declared.TheConstants.{CELLS as CALL_CELLS}
use Rattle.tsb_phase.specs.declared.TheConstants.{CELLS as PHASE_CELLS}
use Rattle.tsb_ring.specs.declared.TheConstants.{CELLS as RING_CELLS}
use Rattle.tsb_coord.specs.declared.TheConstants.{CELLS as PATTERN_CELLS}
use Rattle.tsb_preempt.specs.declared.TheConstants.{CELLS as PREEMPT_CELLS}
use Rattle.tsb_overlap.specs.declared.TheConstants.{CELLS as OVERLAP_CELLS}
use Rattle.tsb_step.specs.declared.first_cell.TheConstants.{DETECTORS, CALLS, PHASES, RINGS, COORD, PREEMPTS, OVERLAPS}
use Rattle.tsb_controller.specs.Rows.{Rows}

-- the cells that differ, each by its number among all cells, with what it held before
abbrev pub changes : Rows → Rows → List (ℕ × ℕ)
changes old new =
    shifted DETECTORS (diff old.detectors new.detectors) ++
    (shifted CALLS (diff old.calls new.calls) ++
    (shifted PHASES (diff old.phases new.phases) ++
    (shifted RINGS (diff old.rings new.rings) ++
    (shifted COORD (diff old.pattern new.pattern) ++
    (shifted PREEMPTS (diff old.preempts new.preempts) ++
    shifted OVERLAPS (diff old.overlaps new.overlaps))))))

-- the rows with what a record says of each put back
abbrev pub put_back : Rows → List (ℕ × ℕ) → Rows
put_back r es = record {
  detectors = apply_diff r.detectors (part DETECTORS DETECTOR_CELLS es);
  calls = apply_diff r.calls (part CALLS CALL_CELLS es);
  phases = apply_diff r.phases (part PHASES PHASE_CELLS es);
  rings = apply_diff r.rings (part RINGS RING_CELLS es);
  pattern = apply_diff r.pattern (part COORD PATTERN_CELLS es);
  preempts = apply_diff r.preempts (part PREEMPTS PREEMPT_CELLS es);
  overlaps = apply_diff r.overlaps (part OVERLAPS OVERLAP_CELLS es);
}

-- a record has no more entries of any cells than there are of these, as every difference has
abbrev pub HasFew : List (ℕ × ℕ) → Type 0
HasFew es = (offset n : ℕ) → length (part offset n es) ≤ n
