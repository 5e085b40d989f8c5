-- Rows that stay, read a tick later: timers have run on, and nothing else differs. So a tick that changes no cell is quiet.
use Rattle.std.proofs.Common.{◌≡◌, ℕ, ◌+◌, ◌≤◌, Bool, true, false, if◌then◌else◌, List, Option, Some, None, refl, inl, inr, arith, slice_index}
use Rattle.std.proofs.Math.Path.{fun_ext}
use Rattle.std.proofs.lemmas.Bool.{cases_Bool}
use Rattle.std.proofs.lemmas.Bool.Decides.{nat_tests}
use Rattle.tsb_step.specs.tsb_types.declared.limits.TheConstants.{PREEMPTS}
use Rattle.tsb_cells.specs.declared.timer.Timer.TheVariants.{Off}
use Rattle.tsb_cells.specs.Timer.{advanced, timer_at}
use Rattle.tsb_cells.proofs.TimerLemmas.{timer_at-next}
use Rattle.tsb_step.specs.tsb_types.Sets.{is_phase}
use Rattle.tsb_step.proofs.tsb_types.ClipLemmas.{among_16}
use Rattle.tsb_detect.specs.Cells as detect
use Rattle.tsb_detect.specs.Cells.{detector_in, detector_of, row_in}
use Rattle.tsb_detect.specs.Detector.{Detector, is_detector}
use Rattle.tsb_detect.specs.Detector as detector
use Rattle.tsb_detect.proofs.StateLemmas.{among-detectors}
use Rattle.tsb_phase.specs.Cells as phases
use Rattle.tsb_phase.specs.Cells.{phase_in, phase_of}
use Rattle.tsb_phase.specs.Phase as phase
use Rattle.tsb_phase.specs.Phase.{Phase}
use Rattle.tsb_preempt.specs.Cells as preempt_cells
use Rattle.tsb_preempt.specs.Cells.{preempts_in, service_in, stage_in}
use Rattle.tsb_preempt.specs.Preempts as preempts
use Rattle.tsb_preempt.specs.Preempts.{Preempts, is_preempt}
use Rattle.tsb_preempt.specs.Service.{service_as_read}
use Rattle.tsb_overlap.specs.Cells as overlap_cells
use Rattle.tsb_overlap.specs.Cells.{is_overlap, overlap_in}
use Rattle.tsb_overlap.specs.Overlap as overlap
use Rattle.tsb_overlap.proofs.CellLemmas.{among-overlaps}
use Rattle.tsb_step.specs.Cells.{clock_at}
use Rattle.tsb_step.specs.MonitorCells.{trip_in}
use Rattle.tsb_step.specs.Quiet.{detectors_waited, waited}
use Rattle.tsb_step.specs.State.{Tripped}
use Rattle.tsb_controller.specs.Rows.{Beside, AreBy, state_of}
use Rattle.tsb_controller.specs.Whole.{All, AreAllBy, all_in}

-- ## Detectors

on-time-waits : (now cell : ℕ) (input : Bool) → cell ≤ now + 1 →
    (if input then timer_at (now + 1) cell else Off) ≡ advanced (if input then timer_at now cell else Off)
on-time-waits now cell true within = timer_at-next now cell within
on-time-waits now cell false within = refl

detector-waits : (now : ℕ) (row : List ℕ) (d : ℕ) → detect.IsRowBy now (row_in row d) → detector_of (now + 1) (row_in row d) ≡ detector.as_read (detector_of now (row_in row d))
detector-waits now row d by = λ i. record (detector_of now (row_in row d)) {
  change = timer_at-next now (row_in row d).change by.change i;
  on_time = on-time-waits now (row_in row d).change (row_in row d).input by.change i;
  extend = timer_at-next now (row_in row d).extend by.extend i;
}

detectors-wait : (now : ℕ) (row : List ℕ) → detect.IsBy now row → detector_in (now + 1) row ≡ detectors_waited (detector_in now row)
unfolding detector_in
detectors-wait now row by = fun_ext (λ d. at d)
  where
    at : (d : ℕ) → detector_in (now + 1) row d ≡ detectors_waited (detector_in now row) d
    at d = elim (cases_Bool (is_detector d)) [
      | inl on ↦ rw on (detector-waits now row d (by.each d (among-detectors d on).from (among-detectors d on).to))
      | inr off ↦ rw off refl
    ]

-- ## Phases

phase-waits : (now : ℕ) (row : List ℕ) (p : ℕ) → phases.IsRowBy now (phases.row_in row p) →
    phase_of (now + 1) (phases.row_in row p) ≡ phase.as_read (phase_of now (phases.row_in row p))
phase-waits now row p by = λ i. record (phase_of now (phases.row_in row p)) {
  timer = timer_at-next now (phases.row_in row p).timer by.timer i;
  pedestrian_timer = timer_at-next now (phases.row_in row p).pedestrian_timer by.pedestrian_timer i;
  passage = timer_at-next now (phases.row_in row p).passage by.passage i;
  conflict = timer_at-next now (phases.row_in row p).conflict by.conflict i;
  reduction = timer_at-next now (phases.row_in row p).reduction by.reduction i;
  red_revert = timer_at-next now (phases.row_in row p).red_revert by.red_revert i;
}

phases-wait : (now : ℕ) (row : List ℕ) → phases.IsBy now row → phase_in (now + 1) row ≡ (λ p. phase.as_read (phase_in now row p))
unfolding phase_in
phases-wait now row by = fun_ext (λ p. at p)
  where
    at : (p : ℕ) → phase_in (now + 1) row p ≡ phase.as_read (phase_in now row p)
    at p = elim (cases_Bool (is_phase p)) [
      | inl on ↦ rw on (phase-waits now row p (by.each p (among_16 p on).from (among_16 p on).to))
      | inr off ↦ rw off refl
    ]

-- ## Preempts

delays-wait : (now : ℕ) (row : List ℕ) → preempt_cells.IsBy now row → (preempts_in (now + 1) row).delay ≡ (λ n. advanced ((preempts_in now row).delay n))
unfolding preempts_in
delays-wait now row by = fun_ext (λ n. at n)
  where
    at : (n : ℕ) → (if is_preempt n then timer_at (now + 1) (slice_index row (1 + n)) else Off) ≡ advanced (if is_preempt n then timer_at now (slice_index row (1 + n)) else Off)
    at n = elim (cases_Bool (is_preempt n)) [
      | inl on ↦
          let from : 1 ≤ n = grind (arith, nat_tests, on) in
          let to : n ≤ PREEMPTS = grind (arith, nat_tests, on) in
          rw on (timer_at-next now (slice_index row (1 + n)) (by.each n from to).delay)
      | inr off ↦ rw off refl
    ]

service-waits : (now : ℕ) (row : List ℕ) → preempt_cells.IsBy now row → service_in (now + 1) row ≡ service_as_read (service_in now row)
unfolding service_in
service-waits now row by = elim (cases_Bool (is_preempt (slice_index row (2 + PREEMPTS)))) [
  | inl on ↦ rw on (λ i. Some (record {
    preempt = slice_index row (2 + PREEMPTS);
    stage = stage_in (slice_index row (3 + PREEMPTS));
    timer = timer_at-next now (slice_index row (4 + PREEMPTS)) by.timer i;
    stage_timer = timer_at-next now (slice_index row (5 + PREEMPTS)) by.stage_timer i;
  }))
  | inr off ↦ rw off refl
]

preempts-wait : (now : ℕ) (row : List ℕ) → preempt_cells.IsBy now row → preempts_in (now + 1) row ≡ preempts.as_read (preempts_in now row)
unfolding preempts_in
preempts-wait now row by = λ i. record (preempts_in now row) {
  delay = delays-wait now row by i;
  service = service-waits now row by i;
}

-- ## Overlaps

overlaps-wait : (now : ℕ) (row : List ℕ) → overlap_cells.IsBy now row → overlap_in (now + 1) row ≡ (λ o. overlap.as_read (overlap_in now row o))
unfolding overlap_in
overlaps-wait now row by = fun_ext (λ o. at o)
  where
    at : (o : ℕ) → overlap_in (now + 1) row o ≡ overlap.as_read (overlap_in now row o)
    at o = elim (cases_Bool (is_overlap o)) [
      | inl on ↦ rw (on, timer_at-next now (slice_index row (5 + o)) (by.each o (among-overlaps o on).from (among-overlaps o on).to).timer) refl
      | inr off ↦ rw off refl
    ]

-- ## All of it

pub rows-wait : (now : ℕ) (a : All) → AreAllBy now a → all_in (now + 1) a ≡ waited (all_in now a)
rows-wait now a by = at (trip_in a.monitor) by.layers
  where
    beside : Option Tripped → Beside
    beside o = record { plan = (all_in now a).plan; desk = (all_in now a).desk; lamp = (all_in now a).lamp; trip = o }

    at : (o : Option Tripped) → AreBy (clock_at now o) a.layers → state_of (now + 1) (beside o) a.layers ≡ waited (state_of now (beside o) a.layers)
    at None held = λ i. record (state_of now (beside None) a.layers) {
      now = now + 1;
      detectors = detectors-wait now a.layers.detectors held.detectors i;
      phases = phases-wait now a.layers.phases held.phases i;
      preempts = preempts-wait now a.layers.preempts held.preempts i;
      overlaps = overlaps-wait now a.layers.overlaps held.overlaps i;
    }
    at (Some trip) held = refl
