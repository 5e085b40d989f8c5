-- What the contracts of `Controller` say of it: its rows, those at the last `open`, and whether its layers are open.
use Rattle.std.specs.Prelude.{◌≡◌, true, false}
use Rattle.tsb_detect.specs.Layer as detect
use Rattle.tsb_calls.specs.Layer as calls
use Rattle.tsb_phase.specs.Layer as phases
use Rattle.tsb_ring.specs.Layer as rings
use Rattle.tsb_coord.specs.Layer as coord
use Rattle.tsb_preempt.specs.Layer as preempts
use Rattle.tsb_overlap.specs.Layer as overlaps
use Rattle.tsb_controller.specs.declared.controller.Controller.{Controller}
use Rattle.tsb_controller.specs.Rows.{Rows}

-- the cells of each layer as they are
abbrev pub rows_of : Controller → Rows
rows_of s = record {
  detectors = detect.cells_of s.detectors;
  calls = calls.cells_of s.calls;
  phases = phases.cells_of s.phases;
  rings = rings.cells_of s.rings;
  pattern = coord.cells_of s.coord;
  preempts = preempts.cells_of s.preempts;
  overlaps = overlaps.cells_of s.overlaps;
}

-- those at the last `open`, with which a record compares them
abbrev pub kept_of : Controller → Rows
kept_of s = record {
  detectors = detect.kept_of s.detectors;
  calls = calls.kept_of s.calls;
  phases = phases.kept_of s.phases;
  rings = rings.kept_of s.rings;
  pattern = coord.kept_of s.coord;
  preempts = preempts.kept_of s.preempts;
  overlaps = overlaps.kept_of s.overlaps;
}

-- from `open` until `close_onto`: the cells of every layer may be written
pub record IsOpen (s : Controller) : Type 0 where
  pub detectors : detect.is_open s.detectors ≡ true
  pub calls : calls.is_open s.calls ≡ true
  pub phases : phases.is_open s.phases ≡ true
  pub rings : rings.is_open s.rings ≡ true
  pub coord : coord.is_open s.coord ≡ true
  pub preempts : preempts.is_open s.preempts ≡ true
  pub overlaps : overlaps.is_open s.overlaps ≡ true

-- before `open` and after `close_onto`, as at power-up: no layer's cells may be written
pub record IsClosed (s : Controller) : Type 0 where
  pub detectors : detect.is_open s.detectors ≡ false
  pub calls : calls.is_open s.calls ≡ false
  pub phases : phases.is_open s.phases ≡ false
  pub rings : rings.is_open s.rings ≡ false
  pub coord : coord.is_open s.coord ≡ false
  pub preempts : preempts.is_open s.preempts ≡ false
  pub overlaps : overlaps.is_open s.overlaps ≡ false
