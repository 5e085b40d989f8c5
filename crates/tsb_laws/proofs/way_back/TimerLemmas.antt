-- In the record of a tick the cell of a timer has no entry exactly where the timer stayed Off or ran on.
use Rattle.std.proofs.Common.{◌≡◌, ◌↔◌, ℕ, ◌+◌, ◌*◌, ◌<◌, ◌≤◌, Bool, true, false, if◌then◌else◌, List, ◌∷◌, ◌++◌, length, get_or, slice_get, slice_index, Some, is_some, refl, sym, ap, subst, arith, ◌∙◌, inl, inr}
use Rattle.std.proofs.lemmas.Bool.{cases_Bool, cases_eq}
use Rattle.std.proofs.lemmas.Bool.Decides.{nat_tests}
use Rattle.std.proofs.lemmas.List.{get_or-append-add}
use Rattle.std.proofs.lemmas.Option.{slice_get-get_or}
use Rattle.std.proofs.Math.ListN.{get_or-append}
use Rattle.tsb_step.specs.tsb_cells.declared.timer.Timer.{Timer}
use Rattle.tsb_step.specs.tsb_cells.Timer.{advanced, IsWithin, timer_cell, timer_at}
use Rattle.tsb_step.specs.tsb_cells.Diff.{diff}
use Rattle.tsb_step.specs.tsb_cells.DiffLaws.{IsChange}
use Rattle.tsb_step.proofs.tsb_cells.ChangeLemmas.{tells_each_change}
use Rattle.tsb_step.proofs.tsb_cells.TimerLemmas.{timer_at-timer_cell, timer_cell-timer_at, timer_cell-le, timer_cell-advanced, timer_at-next, IsWithin-timer_at}
use Rattle.tsb_step.specs.tsb_types.declared.limits.TheConstants as limits
use Rattle.tsb_step.specs.tsb_types.declared.limits.TheConstants.{TICKS}
use Rattle.tsb_step.specs.tsb_types.declared.row.Row.{Row}
use Rattle.tsb_step.specs.tsb_plan.declared.object.TheConstants.{PLAN_CELLS}
use Rattle.tsb_step.specs.tsb_plan.Plan.{Plan}
use Rattle.tsb_step.specs.tsb_detect.declared.TheConstants.{CELLS as DETECTOR_CELLS}
use Rattle.tsb_step.specs.tsb_detect.Detector.{Detector}
use Rattle.tsb_step.specs.tsb_detect.Cells as detect
use Rattle.tsb_step.specs.tsb_detect.Cells.{detector_in}
use Rattle.tsb_step.proofs.tsb_detect.StateLemmas as detect_states
use Rattle.tsb_step.proofs.tsb_detect.ReadLemmas.{detector_in-row}
use Rattle.tsb_step.specs.tsb_calls.declared.TheConstants.{CELLS as CALL_CELLS}
use Rattle.tsb_step.specs.tsb_phase.declared.TheConstants.{CELLS as PHASE_CELLS}
use Rattle.tsb_step.specs.tsb_phase.Phase.{Phase}
use Rattle.tsb_step.specs.tsb_phase.Cells as phases
use Rattle.tsb_step.specs.tsb_phase.Cells.{phase_in}
use Rattle.tsb_step.proofs.tsb_phase.StateLemmas as phase_states
use Rattle.tsb_step.proofs.tsb_phase.ReadLemmas.{phase_in-row}
use Rattle.tsb_step.specs.tsb_ring.declared.TheConstants.{CELLS as RING_CELLS}
use Rattle.tsb_step.specs.tsb_coord.declared.TheConstants.{CELLS as PATTERN_CELLS}
use Rattle.tsb_step.specs.tsb_preempt.declared.TheConstants.{CELLS as PREEMPT_CELLS}
use Rattle.tsb_step.specs.tsb_preempt.Preempts.{Preempts, is_preempt}
use Rattle.tsb_step.specs.tsb_preempt.Cells as preempts
use Rattle.tsb_step.specs.tsb_preempt.Cells.{service_in, preempts_in}
use Rattle.tsb_step.proofs.tsb_preempt.ResetLemmas.{is_preempt-from}
use Rattle.tsb_step.proofs.tsb_preempt.StateLemmas as preempt_states
use Rattle.tsb_step.specs.tsb_overlap.declared.TheConstants.{CELLS as OVERLAP_CELLS}
use Rattle.tsb_step.specs.tsb_overlap.Overlap as overlap
use Rattle.tsb_step.specs.tsb_overlap.Cells as overlaps
use Rattle.tsb_step.specs.tsb_overlap.Cells.{overlap_in}
use Rattle.tsb_overlap.proofs.CellLemmas.{overlap_in-part}
use Rattle.tsb_overlap.proofs.StateLemmas as overlap_states
use Rattle.tsb_step.specs.tsb_heads.Monitoring.{judge}
use Rattle.tsb_step.specs.tsb_transact.declared.TheConstants.{CELLS as DESK_CELLS}
use Rattle.tsb_controller.specs.Whole.{All, AreFull, whole}
use Rattle.tsb_step.specs.declared.first_cell.TheConstants.{DETECTORS, PHASES, PREEMPTS, OVERLAPS, ALL_CELLS}
use Rattle.tsb_step.specs.declared.inputs.Input.{Input}
use Rattle.tsb_step.specs.declared.inputs.Input.TheVariants.{Tick}
use Rattle.tsb_step.specs.Cells.{cells_of, clock}
use Rattle.tsb_step.specs.Past.{record_of}
use Rattle.tsb_step.specs.Runs.{replay}
use Rattle.tsb_step.specs.Signs.{field, watched}
use Rattle.tsb_step.specs.State.{State}
use Rattle.tsb_step.specs.Step.{step, ticked}
use Rattle.tsb_step.specs.Tick.{next}
use Rattle.tsb_step.specs.TimeLaws.{Rests}
use Rattle.tsb_step.proofs.GoodLemmas.{good_ticked}
use Rattle.tsb_step.proofs.RestLemmas.{rests_run}
use Rattle.tsb_laws.specs.Runs.{IsRun}
use Rattle.tsb_laws.specs.Timers.{Place, Change, Extend, Interval, Pedestrian, Passage, Conflict, Reduction, RedRevert, Delay, Served, Track, Overlap, IsPlace, served, tracked, timer_of, cell_of, waits, HasNone}
use Rattle.tsb_laws.proofs.way_back.StepLemmas.{told-ticked}
use Rattle.tsb_laws.proofs.way_back.ToldLemmas.{rows-of, cells-whole, IsOfRun, of-a-run, phases-ranged, layers-by, full-rows, cells-full}
use Rattle.tsb_laws.proofs.way_back.TripLemmas.{clock-now, clock-stands, clock-runs}

-- ## A part of a row

skip : (xs ys : List ℕ) (n m k : ℕ) → length xs ≡ n → m ≡ n + k → slice_index (xs ++ ys) m ≡ slice_index ys k
skip xs ys n m k long e =
    ap (λ (j : ℕ). get_or (xs ++ ys) j 0) (e ∙ ap (λ (j : ℕ). j + k) (sym long)) ∙ get_or-append-add xs ys k 0

module _ (a : All) (long : AreFull a) where
  abbrev behind-preempts : List ℕ
  behind-preempts = a.layers.overlaps ++ a.monitor

  abbrev from-preempts : List ℕ
  from-preempts = a.layers.preempts ++ behind-preempts

  abbrev from-pattern : List ℕ
  from-pattern = a.layers.pattern ++ from-preempts

  abbrev from-rings : List ℕ
  from-rings = a.layers.rings ++ from-pattern

  abbrev from-phases : List ℕ
  from-phases = a.layers.phases ++ from-rings

  abbrev from-calls : List ℕ
  from-calls = a.layers.calls ++ from-phases

  abbrev from-detectors : List ℕ
  from-detectors = a.layers.detectors ++ from-calls

  abbrev from-desk : List ℕ
  from-desk = a.desk ++ from-detectors

  at-detectors : (k : ℕ) → k < DETECTOR_CELLS → slice_index (whole a) (DETECTORS + k) ≡ slice_index a.layers.detectors k
  at-detectors k below =
      skip a.plan from-desk PLAN_CELLS (DETECTORS + k) (DESK_CELLS + k) long.plan (omega arith)
      ∙ skip a.desk from-detectors DESK_CELLS (DESK_CELLS + k) k long.desk refl
      ∙ get_or-append a.layers.detectors from-calls 0 k (omega (arith, below, long.detectors))

  at-phases : (k : ℕ) → k < PHASE_CELLS → slice_index (whole a) (PHASES + k) ≡ slice_index a.layers.phases k
  at-phases k below =
      skip a.plan from-desk PLAN_CELLS (PHASES + k) (DESK_CELLS + (DETECTOR_CELLS + (CALL_CELLS + k))) long.plan (omega arith)
      ∙ skip a.desk from-detectors DESK_CELLS (DESK_CELLS + (DETECTOR_CELLS + (CALL_CELLS + k))) (DETECTOR_CELLS + (CALL_CELLS + k)) long.desk refl
      ∙ skip a.layers.detectors from-calls DETECTOR_CELLS (DETECTOR_CELLS + (CALL_CELLS + k)) (CALL_CELLS + k) long.detectors refl
      ∙ skip a.layers.calls from-phases CALL_CELLS (CALL_CELLS + k) k long.calls refl
      ∙ get_or-append a.layers.phases from-rings 0 k (omega (arith, below, long.phases))

  at-preempts : (k : ℕ) → k < PREEMPT_CELLS → slice_index (whole a) (PREEMPTS + k) ≡ slice_index a.layers.preempts k
  at-preempts k below =
      skip a.plan from-desk PLAN_CELLS (PREEMPTS + k) (DESK_CELLS + (DETECTOR_CELLS + (CALL_CELLS + (PHASE_CELLS + (RING_CELLS + (PATTERN_CELLS + k)))))) long.plan (omega arith)
      ∙ skip a.desk from-detectors DESK_CELLS (DESK_CELLS + (DETECTOR_CELLS + (CALL_CELLS + (PHASE_CELLS + (RING_CELLS + (PATTERN_CELLS + k)))))) (DETECTOR_CELLS + (CALL_CELLS + (PHASE_CELLS + (RING_CELLS + (PATTERN_CELLS + k))))) long.desk refl
      ∙ skip a.layers.detectors from-calls DETECTOR_CELLS (DETECTOR_CELLS + (CALL_CELLS + (PHASE_CELLS + (RING_CELLS + (PATTERN_CELLS + k))))) (CALL_CELLS + (PHASE_CELLS + (RING_CELLS + (PATTERN_CELLS + k)))) long.detectors refl
      ∙ skip a.layers.calls from-phases CALL_CELLS (CALL_CELLS + (PHASE_CELLS + (RING_CELLS + (PATTERN_CELLS + k)))) (PHASE_CELLS + (RING_CELLS + (PATTERN_CELLS + k))) long.calls refl
      ∙ skip a.layers.phases from-rings PHASE_CELLS (PHASE_CELLS + (RING_CELLS + (PATTERN_CELLS + k))) (RING_CELLS + (PATTERN_CELLS + k)) long.phases refl
      ∙ skip a.layers.rings from-pattern RING_CELLS (RING_CELLS + (PATTERN_CELLS + k)) (PATTERN_CELLS + k) long.rings refl
      ∙ skip a.layers.pattern from-preempts PATTERN_CELLS (PATTERN_CELLS + k) k long.pattern refl
      ∙ get_or-append a.layers.preempts behind-preempts 0 k (omega (arith, below, long.preempts))

  at-overlaps : (k : ℕ) → k < OVERLAP_CELLS → slice_index (whole a) (OVERLAPS + k) ≡ slice_index a.layers.overlaps k
  at-overlaps k below =
      skip a.plan from-desk PLAN_CELLS (OVERLAPS + k) (DESK_CELLS + (DETECTOR_CELLS + (CALL_CELLS + (PHASE_CELLS + (RING_CELLS + (PATTERN_CELLS + (PREEMPT_CELLS + k))))))) long.plan (omega arith)
      ∙ skip a.desk from-detectors DESK_CELLS (DESK_CELLS + (DETECTOR_CELLS + (CALL_CELLS + (PHASE_CELLS + (RING_CELLS + (PATTERN_CELLS + (PREEMPT_CELLS + k))))))) (DETECTOR_CELLS + (CALL_CELLS + (PHASE_CELLS + (RING_CELLS + (PATTERN_CELLS + (PREEMPT_CELLS + k)))))) long.desk refl
      ∙ skip a.layers.detectors from-calls DETECTOR_CELLS (DETECTOR_CELLS + (CALL_CELLS + (PHASE_CELLS + (RING_CELLS + (PATTERN_CELLS + (PREEMPT_CELLS + k)))))) (CALL_CELLS + (PHASE_CELLS + (RING_CELLS + (PATTERN_CELLS + (PREEMPT_CELLS + k))))) long.detectors refl
      ∙ skip a.layers.calls from-phases CALL_CELLS (CALL_CELLS + (PHASE_CELLS + (RING_CELLS + (PATTERN_CELLS + (PREEMPT_CELLS + k))))) (PHASE_CELLS + (RING_CELLS + (PATTERN_CELLS + (PREEMPT_CELLS + k)))) long.calls refl
      ∙ skip a.layers.phases from-rings PHASE_CELLS (PHASE_CELLS + (RING_CELLS + (PATTERN_CELLS + (PREEMPT_CELLS + k)))) (RING_CELLS + (PATTERN_CELLS + (PREEMPT_CELLS + k))) long.phases refl
      ∙ skip a.layers.rings from-pattern RING_CELLS (RING_CELLS + (PATTERN_CELLS + (PREEMPT_CELLS + k))) (PATTERN_CELLS + (PREEMPT_CELLS + k)) long.rings refl
      ∙ skip a.layers.pattern from-preempts PATTERN_CELLS (PATTERN_CELLS + (PREEMPT_CELLS + k)) (PREEMPT_CELLS + k) long.pattern refl
      ∙ skip a.layers.preempts behind-preempts PREEMPT_CELLS (PREEMPT_CELLS + k) k long.preempts refl
      ∙ get_or-append a.layers.overlaps a.monitor 0 k (omega (arith, below, long.overlaps))

-- ## What the cell of a timer holds

-- the cell keeps the timer at this clock
record Keeps (c cell : ℕ) (t : Timer) : Type 0 where
  holds : cell ≡ timer_cell c t
  within : IsWithin c t

keeps : (c cell : ℕ) (t : Timer) → cell ≤ c + 1 → timer_at c cell ≡ t → Keeps c cell t
keeps c cell t few e = record {
  holds = sym (timer_cell-timer_at c cell few) ∙ ap (timer_cell c) e;
  within = subst (λ (x : Timer). IsWithin c x) e (IsWithin-timer_at c cell);
}

module _ (c : ℕ) (row : List ℕ) (f : ℕ → Detector) (by : detect.IsBy c row) (read : detector_in c row ≡ f) (d : ℕ) (from : 1 ≤ d) (to : d ≤ limits.VEHICLE_DETECTORS) where
  detector-kept : detect.detector_of c (detect.row_in row d) ≡ f d
  detector-kept = sym (detector_in-row c row d from to) ∙ ap (λ (g : ℕ → Detector). g d) read

  keeps-change : Keeps c (slice_index row (11 + limits.VEHICLE_DETECTORS + d)) (f d).change
  unfolding detect.row_in
  keeps-change = keeps c _ _ (by.each d from to).change (ap (λ (x : Detector). x.change) detector-kept)

  keeps-extend : Keeps c (slice_index row (11 + 2 * limits.VEHICLE_DETECTORS + d)) (f d).extend
  unfolding detect.row_in
  keeps-extend = keeps c _ _ (by.each d from to).extend (ap (λ (x : Detector). x.extend) detector-kept)

module _ (c : ℕ) (row : List ℕ) (f : ℕ → Phase) (by : phases.IsBy c row) (read : phase_in c row ≡ f) (p : ℕ) (from : 1 ≤ p) (to : p ≤ 16) where
  phase-kept : phases.phase_of c (phases.row_in row p) ≡ f p
  phase-kept = sym (phase_in-row c row p from to) ∙ ap (λ (g : ℕ → Phase). g p) read

  keeps-timer : Keeps c (slice_index row (3 + p)) (f p).timer
  unfolding phases.row_in
  keeps-timer = keeps c _ _ (by.each p from to).timer (ap (λ (x : Phase). x.timer) phase-kept)

  keeps-pedestrian : Keeps c (slice_index row (19 + p)) (f p).pedestrian_timer
  unfolding phases.row_in
  keeps-pedestrian = keeps c _ _ (by.each p from to).pedestrian_timer (ap (λ (x : Phase). x.pedestrian_timer) phase-kept)

  keeps-passage : Keeps c (slice_index row (35 + p)) (f p).passage
  unfolding phases.row_in
  keeps-passage = keeps c _ _ (by.each p from to).passage (ap (λ (x : Phase). x.passage) phase-kept)

  keeps-conflict : Keeps c (slice_index row (51 + p)) (f p).conflict
  unfolding phases.row_in
  keeps-conflict = keeps c _ _ (by.each p from to).conflict (ap (λ (x : Phase). x.conflict) phase-kept)

  keeps-reduction : Keeps c (slice_index row (67 + p)) (f p).reduction
  unfolding phases.row_in
  keeps-reduction = keeps c _ _ (by.each p from to).reduction (ap (λ (x : Phase). x.reduction) phase-kept)

  keeps-red_revert : Keeps c (slice_index row (83 + p)) (f p).red_revert
  unfolding phases.row_in
  keeps-red_revert = keeps c _ _ (by.each p from to).red_revert (ap (λ (x : Phase). x.red_revert) phase-kept)

module _ (c : ℕ) (row : List ℕ) (f : Preempts) (by : preempts.IsBy c row) (read : preempts_in c row ≡ f) where
  delay-in : (n : ℕ) → 1 ≤ n → n ≤ limits.PREEMPTS → timer_at c (slice_index row (1 + n)) ≡ (preempts_in c row).delay n
  unfolding preempts_in
  delay-in n from to = rw (is_preempt-from n from to) refl

  none-in : is_preempt (slice_index row (2 + limits.PREEMPTS)) ≡ false → slice_index row (2 + limits.PREEMPTS) ≡ 0
  none-in off = none (slice_index row (2 + limits.PREEMPTS)) by.preempt off
    where
      none : (n : ℕ) → n ≤ limits.PREEMPTS → is_preempt n ≡ false → n ≡ 0
      none n few out = grind (arith, nat_tests, few, out)

  served-in : timer_at c (slice_index row (4 + limits.PREEMPTS)) ≡ served (preempts_in c row).service
  unfolding preempts_in service_in
  served-in =
      elim (cases_Bool (is_preempt (slice_index row (2 + limits.PREEMPTS)))) [
        | inl on ↦ rw on refl
        | inr off ↦ rw (off, by.no_timer (none-in off)) refl
      ]

  tracked-in : timer_at c (slice_index row (5 + limits.PREEMPTS)) ≡ tracked (preempts_in c row).service
  unfolding preempts_in service_in
  tracked-in =
      elim (cases_Bool (is_preempt (slice_index row (2 + limits.PREEMPTS)))) [
        | inl on ↦ rw on refl
        | inr off ↦ rw (off, by.no_stage_timer (none-in off)) refl
      ]

  keeps-delay : (n : ℕ) → 1 ≤ n → n ≤ limits.PREEMPTS → Keeps c (slice_index row (1 + n)) (f.delay n)
  keeps-delay n from to = keeps c _ _ (by.each n from to).delay (delay-in n from to ∙ ap (λ (g : Preempts). g.delay n) read)

  keeps-served : Keeps c (slice_index row (4 + limits.PREEMPTS)) (served f.service)
  keeps-served = keeps c _ _ by.timer (served-in ∙ ap (λ (g : Preempts). served g.service) read)

  keeps-tracked : Keeps c (slice_index row (5 + limits.PREEMPTS)) (tracked f.service)
  keeps-tracked = keeps c _ _ by.stage_timer (tracked-in ∙ ap (λ (g : Preempts). tracked g.service) read)

keeps-overlap : (c : ℕ) (row : List ℕ) (f : ℕ → overlap.Overlap) → overlaps.IsBy c row → overlap_in c row ≡ f → (o : ℕ) → 1 ≤ o → o ≤ limits.OVERLAPS →
    Keeps c (slice_index row (5 + o)) (f o).timer
keeps-overlap c row f by read o from to =
    keeps c _ _ (by.each o from to).timer
    (ap (λ (x : overlap.Overlap). x.timer) (sym (overlap_in-part c row o from to) ∙ ap (λ (g : ℕ → overlap.Overlap). g o) read))

moved-cell : (c cell other : ℕ) (t : Timer) → other ≡ cell → Keeps c cell t → Keeps c other t
moved-cell c cell other t e k = record { holds = e ∙ k.holds; within = k.within }

-- ## Of each timer

module _ (s : State) (is : IsOfRun s) where
  abbrev row-detect : List ℕ
  row-detect = (rows-of s).layers.detectors

  abbrev row-phases : List ℕ
  row-phases = (rows-of s).layers.phases

  abbrev row-preempts : List ℕ
  row-preempts = (rows-of s).layers.preempts

  detector-there : (k : ℕ) (t : Timer) → k < DETECTOR_CELLS → Keeps (clock s) (slice_index row-detect k) t → Keeps (clock s) (slice_index (cells_of s) (DETECTORS + k)) t
  detector-there k t below it =
      moved-cell (clock s) _ _ t (ap (λ (xs : List ℕ). slice_index xs (DETECTORS + k)) (cells-whole s) ∙ at-detectors (rows-of s) (full-rows s is) k below) it

  phase-there : (k : ℕ) (t : Timer) → k < PHASE_CELLS → Keeps (clock s) (slice_index row-phases k) t → Keeps (clock s) (slice_index (cells_of s) (PHASES + k)) t
  phase-there k t below it =
      moved-cell (clock s) _ _ t (ap (λ (xs : List ℕ). slice_index xs (PHASES + k)) (cells-whole s) ∙ at-phases (rows-of s) (full-rows s is) k below) it

  preempt-there : (k : ℕ) (t : Timer) → k < PREEMPT_CELLS → Keeps (clock s) (slice_index row-preempts k) t → Keeps (clock s) (slice_index (cells_of s) (PREEMPTS + k)) t
  preempt-there k t below it =
      moved-cell (clock s) _ _ t (ap (λ (xs : List ℕ). slice_index xs (PREEMPTS + k)) (cells-whole s) ∙ at-preempts (rows-of s) (full-rows s is) k below) it

  abbrev row-overlaps : List ℕ
  row-overlaps = (rows-of s).layers.overlaps

  overlap-there : (k : ℕ) (t : Timer) → k < OVERLAP_CELLS → Keeps (clock s) (slice_index row-overlaps k) t → Keeps (clock s) (slice_index (cells_of s) (OVERLAPS + k)) t
  overlap-there k t below it =
      moved-cell (clock s) _ _ t (ap (λ (xs : List ℕ). slice_index xs (OVERLAPS + k)) (cells-whole s) ∙ at-overlaps (rows-of s) (full-rows s is) k below) it

  by-overlaps : overlaps.IsBy (clock s) row-overlaps
  by-overlaps = (layers-by s is).overlaps

  read-overlaps : overlap_in (clock s) row-overlaps ≡ s.overlaps
  read-overlaps = (overlap_states.states-read (clock s) s.overlaps s.omitted is.told.layers.overlaps).overlaps

  by-detect : detect.IsBy (clock s) row-detect
  by-detect = (layers-by s is).detectors

  by-phases : phases.IsBy (clock s) row-phases
  by-phases = (layers-by s is).phases

  by-preempts : preempts.IsBy (clock s) row-preempts
  by-preempts = (layers-by s is).preempts

  read-detect : detector_in (clock s) row-detect ≡ s.detectors
  read-detect = detect_states.states-read (clock s) s.detectors is.told.layers.detectors

  read-phases : phase_in (clock s) row-phases ≡ s.phases
  read-phases = (phase_states.states-read (clock s) s.phases (phases-ranged s is)).same

  read-preempts : preempts_in (clock s) row-preempts ≡ s.preempts
  read-preempts = preempt_states.states-read (clock s) s.preempts is.told.layers.preempts

  place-keeps : (w : Place) → IsPlace w → Keeps (clock s) (slice_index (cells_of s) (cell_of w)) (timer_of w s)
  place-keeps (Change d) at = detector-there (11 + limits.VEHICLE_DETECTORS + d) _ (omega (arith, at.1)) (keeps-change (clock s) row-detect s.detectors by-detect read-detect d at.0 at.1)
  place-keeps (Extend d) at = detector-there (11 + 2 * limits.VEHICLE_DETECTORS + d) _ (omega (arith, at.1)) (keeps-extend (clock s) row-detect s.detectors by-detect read-detect d at.0 at.1)
  place-keeps (Interval p) at = phase-there (3 + p) _ (omega (arith, at.1)) (keeps-timer (clock s) row-phases s.phases by-phases read-phases p at.0 at.1)
  place-keeps (Pedestrian p) at = phase-there (19 + p) _ (omega (arith, at.1)) (keeps-pedestrian (clock s) row-phases s.phases by-phases read-phases p at.0 at.1)
  place-keeps (Passage p) at = phase-there (35 + p) _ (omega (arith, at.1)) (keeps-passage (clock s) row-phases s.phases by-phases read-phases p at.0 at.1)
  place-keeps (Conflict p) at = phase-there (51 + p) _ (omega (arith, at.1)) (keeps-conflict (clock s) row-phases s.phases by-phases read-phases p at.0 at.1)
  place-keeps (Reduction p) at = phase-there (67 + p) _ (omega (arith, at.1)) (keeps-reduction (clock s) row-phases s.phases by-phases read-phases p at.0 at.1)
  place-keeps (RedRevert p) at = phase-there (83 + p) _ (omega (arith, at.1)) (keeps-red_revert (clock s) row-phases s.phases by-phases read-phases p at.0 at.1)
  place-keeps (Delay n) at = preempt-there (1 + n) _ (omega (arith, at.1)) (keeps-delay (clock s) row-preempts s.preempts by-preempts read-preempts n at.0 at.1)
  place-keeps Served at = preempt-there (4 + limits.PREEMPTS) _ (omega arith) (keeps-served (clock s) row-preempts s.preempts by-preempts read-preempts)
  place-keeps Track at = preempt-there (5 + limits.PREEMPTS) _ (omega arith) (keeps-tracked (clock s) row-preempts s.preempts by-preempts read-preempts)
  place-keeps (Overlap o) at = overlap-there (5 + o) _ (omega (arith, at.1)) (keeps-overlap (clock s) row-overlaps s.overlaps by-overlaps read-overlaps o at.0 at.1)

place-below : (w : Place) → IsPlace w → cell_of w < ALL_CELLS
place-below (Change d) at = omega (arith, at.1)
place-below (Extend d) at = omega (arith, at.1)
place-below (Interval p) at = omega (arith, at.1)
place-below (Pedestrian p) at = omega (arith, at.1)
place-below (Passage p) at = omega (arith, at.1)
place-below (Conflict p) at = omega (arith, at.1)
place-below (Reduction p) at = omega (arith, at.1)
place-below (RedRevert p) at = omega (arith, at.1)
place-below (Delay n) at = omega (arith, at.1)
place-below Served at = omega arith
place-below Track at = omega arith
place-below (Overlap o) at = omega (arith, at.1)

-- ## Entries

-- two rows of cells of one length, and a cell of theirs
module _ (before now : List ℕ) (i : ℕ) (same : length before ≡ length now) (below : i < length before) where
  held-before : slice_get before i ≡ Some (slice_index before i)
  held-before = slice_get-get_or before i 0 below

  held-now : slice_get now i ≡ Some (slice_index now i)
  held-now = slice_get-get_or now i 0 (omega (arith, same, below))

  some-same : (x y : ℕ) → Some x ≡ Some y → x ≡ y
  some-same x y e = cc

  none-where-same : slice_index now i ≡ slice_index before i → HasNone (diff before now) i
  none-where-same e old has =
      let change : IsChange before now i old = (tells_each_change before now same i old).0 has in
      change.changed (held-now ∙ ap Some e ∙ sym held-before ∙ change.was)

  same-where-none : HasNone (diff before now) i → slice_index now i ≡ slice_index before i
  same-where-none none =
      elim (cases_eq (slice_index now i) (slice_index before i)) [
        | inl e ↦ e
        | inr other ↦ absurd (none (slice_index before i) ((tells_each_change before now same i (slice_index before i)).1 (record {
          was = held-before;
          changed = λ e. other (some-same (slice_index now i) (slice_index before i) (sym held-now ∙ e));
        })))
      ]

-- ## A tick

-- by how much the clock goes on
clock-ticked : (s : State) (row : Row) (b : Bool) → is_some s.trip ≡ b →
    clock (if b then record s { now = s.now + 1 } else (if b then next s row else watched s (next s row))) ≡ (if b then clock s else clock s + 1)
unfolding watched
clock-ticked s row true e = sym (clock-stands s.now (s.now + 1) s.trip e)
clock-ticked s row false e =
    clock-now (s.now + 1) (judge s.plan (field s) (field (next s row))) ∙ ap (λ (n : ℕ). n + 1) (sym (clock-runs s.now s.trip e))

clock-after : (s : State) (row : Row) → clock (ticked row s) ≡ (if is_some s.trip then clock s else clock s + 1)
clock-after s row = clock-ticked s row (is_some s.trip) refl

-- the cell of a timer that waits stays, and a timer whose cell stays waits
cell-waits : (c : ℕ) (b : Bool) (t : Timer) → timer_cell (if b then c else c + 1) (if b then t else advanced t) ≡ timer_cell c t
cell-waits c true t = refl
cell-waits c false t = timer_cell-advanced c t

waits-by-cell : (c : ℕ) (b : Bool) (t u : Timer) → IsWithin c t → IsWithin (if b then c else c + 1) u → timer_cell (if b then c else c + 1) u ≡ timer_cell c t →
    u ≡ (if b then t else advanced t)
waits-by-cell c true t u h k e = sym (timer_at-timer_cell c u k) ∙ ap (timer_at c) e ∙ timer_at-timer_cell c t h
waits-by-cell c false t u h k e =
    sym (timer_at-timer_cell (c + 1) u k) ∙ ap (timer_at (c + 1)) e ∙ timer_at-next c (timer_cell c t) (timer_cell-le c t)
    ∙ ap advanced (timer_at-timer_cell c t h)

module _ (s after : State) (is : IsOfRun s) (also : IsOfRun after) (e : clock after ≡ (if is_some s.trip then clock s else clock s + 1)) (w : Place) (at : IsPlace w) where
  abbrev c : ℕ
  c = cell_of w

  kept : Keeps (clock s) (slice_index (cells_of s) c) (timer_of w s)
  kept = place-keeps s is w at

  kept-after : Keeps (if is_some s.trip then clock s else clock s + 1) (slice_index (cells_of after) c) (timer_of w after)
  kept-after = subst (λ (n : ℕ). Keeps n (slice_index (cells_of after) c) (timer_of w after)) e (place-keeps after also w at)

  long : length (cells_of s) ≡ length (cells_of after)
  long = cells-full s is ∙ sym (cells-full after also)

  inside : c < length (cells_of s)
  inside = subst (λ (n : ℕ). c < n) (sym (cells-full s is)) (place-below w at)

  pub written : HasNone (diff (cells_of s) (cells_of after)) c ↔ (timer_of w after ≡ waits s (timer_of w s))
  written = (
    λ none. waits-by-cell (clock s) (is_some s.trip) (timer_of w s) (timer_of w after) kept.within kept-after.within
        (sym kept-after.holds ∙ same-where-none (cells_of s) (cells_of after) c long inside none ∙ kept.holds),
    λ h. none-where-same (cells_of s) (cells_of after) c long inside
        (kept-after.holds ∙ ap (timer_cell (if is_some s.trip then clock s else clock s + 1)) h
        ∙ cell-waits (clock s) (is_some s.trip) (timer_of w s) ∙ sym kept.holds),
  )

after-tick : (plan : Plan) (is : List Input) (row : Row) → IsOfRun (replay plan is) → ((p : ℕ) → Rests ((step (replay plan is) (Tick row)).phases p)) →
    IsOfRun (ticked row (replay plan is))
unfolding step watched
after-tick plan is row it rests = record {
  told = told-ticked (replay plan is) row it.good it.told;
  good = good_ticked (replay plan is) row it.good;
  rests = rests;
  since = since_stays (is_some (replay plan is).trip);
}
  where
    -- a tick leaves since when the local counter comes into step
    since_stays : (b : Bool) → (if b then record (replay plan is) { now = (replay plan is).now + 1 }
        else (if b then next (replay plan is) row else watched (replay plan is) (next (replay plan is) row))).correction.since ≤ TICKS
    since_stays true = it.since
    since_stays false = it.since

pub waiting-not-written : (plan : Plan) (is : List Input) → IsRun plan is → (row : Row) (w : Place) → IsPlace w →
    HasNone (record_of (Tick row) (replay plan is) (step (replay plan is) (Tick row))).entries (cell_of w)
    ↔ (timer_of w (step (replay plan is) (Tick row)) ≡ waits (replay plan is) (timer_of w (replay plan is)))
unfolding step
waiting-not-written plan is r row w at =
    written (replay plan is) (ticked row (replay plan is)) (of-a-run plan is r)
    (after-tick plan is row (of-a-run plan is r) (λ p. rests_run plan (Tick row ∷ is) p)) (clock-after (replay plan is) row) w at
