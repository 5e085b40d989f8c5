-- A quiet tick changes no cell: the cell of a timer says when it began, which is the same while it runs on.
use Rattle.std.proofs.Common.{◌≡◌, ℕ, ◌+◌, ◌≤◌, ◌<◌, Bool, true, [], map, Option, Some, None, refl, ap, arith, ◌∙◌}
use Rattle.std.proofs.lemmas.Bool.Decides.{nat_tests}
use Rattle.tsb_cells.specs.declared.timer.Timer.{Timer}
use Rattle.tsb_cells.specs.Timer.{advanced, timer_cell}
use Rattle.tsb_cells.proofs.DiffLemmas.{diff-same}
use Rattle.tsb_cells.proofs.TimerLemmas.{timer_cell-advanced}
use Rattle.tsb_types.specs.declared.limits.TheConstants.{VEHICLE_DETECTORS, OVERLAPS, PREEMPTS}
use Rattle.tsb_types.specs.Lists.{run_from}
use Rattle.tsb_types.specs.Sets.{list_of}
use Rattle.tsb_types.proofs.SetLemmas.{same-list_of}
use Rattle.tsb_detect.specs.Detector as detector
use Rattle.tsb_detect.specs.Detector.{Detector, is_detector}
use Rattle.tsb_detect.specs.Cells.{detectors_cells, is_inactive, is_present}
use Rattle.tsb_phase.specs.Phase as phase
use Rattle.tsb_phase.specs.Phase.{Phase}
use Rattle.tsb_phase.specs.Cells.{phases_cells}
use Rattle.tsb_preempt.specs.Preempts as preempts
use Rattle.tsb_preempt.specs.Preempts.{Preempts}
use Rattle.tsb_preempt.specs.Service.{Service, service_as_read}
use Rattle.tsb_preempt.specs.Cells.{service_cells, preempts_cells}
use Rattle.tsb_overlap.specs.Overlap as overlap
use Rattle.tsb_overlap.specs.Overlap.{Overlap}
use Rattle.tsb_overlap.specs.Cells.{overlaps_cells}
use Rattle.tsb_step.specs.declared.inputs.Input.{Input}
use Rattle.tsb_step.specs.State.{State, Tripped}
use Rattle.tsb_step.specs.Cells.{cells_of}
use Rattle.tsb_step.specs.Past.{record_of}
use Rattle.tsb_step.specs.Quiet.{detectors_waited, waited, IsQuiet}
use Rattle.tsb_types.proofs.RunLemmas.{map-same}

-- the cells of timers that ran on
ran_on : (now : ℕ) (timers : ℕ → Timer) (n : ℕ) →
    map (λ k. timer_cell (now + 1) (advanced (timers k))) (run_from 1 n) ≡ map (λ k. timer_cell now (timers k)) (run_from 1 n)
ran_on now timers n =
    map-same (λ k. timer_cell (now + 1) (advanced (timers k))) (λ k. timer_cell now (timers k)) 1 n
    (λ k from below. timer_cell-advanced now (timers k))

-- ## Detectors

in_range : (d : ℕ) → 1 ≤ d → d < 1 + VEHICLE_DETECTORS → is_detector d ≡ true
in_range d from below = grind (arith, nat_tests, from, below)

detector_waits : (f : ℕ → Detector) (d : ℕ) → 1 ≤ d → d < 1 + VEHICLE_DETECTORS → detectors_waited f d ≡ detector.as_read (f d)
detector_waits f d from below = rw (in_range d from below) refl

keeps_list : (f : ℕ → Detector) (test : Detector → Bool) → ((x : Detector) → test (detector.as_read x) ≡ test x) →
    list_of VEHICLE_DETECTORS (λ d. test (detectors_waited f d)) ≡ list_of VEHICLE_DETECTORS (λ d. test (f d))
keeps_list f test keeps =
    same-list_of VEHICLE_DETECTORS (λ d. test (detectors_waited f d)) (λ d. test (f d)) (λ d from within.
    ap test (detector_waits f d from (omega (arith, within))) ∙ keeps (f d))

keeps_map : (f : ℕ → Detector) (before after : Detector → ℕ) → ((x : Detector) → after (detector.as_read x) ≡ before x) →
    map (λ d. after (detectors_waited f d)) (run_from 1 VEHICLE_DETECTORS) ≡ map (λ d. before (f d)) (run_from 1 VEHICLE_DETECTORS)
keeps_map f before after keeps =
    map-same (λ d. after (detectors_waited f d)) (λ d. before (f d)) 1 VEHICLE_DETECTORS (λ d from below.
    ap after (detector_waits f d from below) ∙ keeps (f d))

same_detectors : (now : ℕ) (f : ℕ → Detector) → detectors_cells (now + 1) (detectors_waited f) ≡ detectors_cells now f
same_detectors now f =
    rw (
      keeps_list f (λ x. x.input) (λ x. refl),
      keeps_list f (λ x. x.output) (λ x. refl),
      keeps_list f (λ x. x.actuated) (λ x. refl),
      keeps_list f (λ x. is_inactive x.alarm) (λ x. refl),
      keeps_list f (λ x. is_present x.alarm) (λ x. refl),
      keeps_list f (λ x. detector.is_erratic x.alarm) (λ x. refl),
      keeps_map f (λ x. x.rises) (λ x. x.rises) (λ x. refl),
      keeps_map f (λ x. timer_cell now x.change) (λ x. timer_cell (now + 1) x.change) (λ x. timer_cell-advanced now x.change),
      keeps_map f (λ x. timer_cell now x.extend) (λ x. timer_cell (now + 1) x.extend) (λ x. timer_cell-advanced now x.extend),
    )
    refl

-- ## Phases

same_phases : (now : ℕ) (f : ℕ → Phase) → phases_cells (now + 1) (λ p. phase.as_read (f p)) ≡ phases_cells now f
same_phases now f =
    rw (
      ran_on now (λ p. (f p).timer) 16,
      ran_on now (λ p. (f p).pedestrian_timer) 16,
      ran_on now (λ p. (f p).passage) 16,
      ran_on now (λ p. (f p).conflict) 16,
      ran_on now (λ p. (f p).reduction) 16,
      ran_on now (λ p. (f p).red_revert) 16,
    ) refl

-- ## Preempts

same_service : (now : ℕ) (x : Option Service) → service_cells (now + 1) (service_as_read x) ≡ service_cells now x
same_service now None = refl
same_service now (Some x) = rw (timer_cell-advanced now x.timer, timer_cell-advanced now x.stage_timer) refl

same_preempts : (now : ℕ) (f : Preempts) → preempts_cells (now + 1) (preempts.as_read f) ≡ preempts_cells now f
same_preempts now f = rw (ran_on now f.delay PREEMPTS, same_service now f.service) refl

-- ## Overlaps

same_overlaps : (now : ℕ) (f : ℕ → Overlap) (omitted : ℕ → Bool) → overlaps_cells (now + 1) (λ o. overlap.as_read (f o)) omitted ≡ overlaps_cells now f omitted
same_overlaps now f omitted = rw (ran_on now (λ o. (f o).timer) OVERLAPS) refl

-- ## All of them

pub waits_in_place : (s : State) → cells_of (waited s) ≡ cells_of s
unfolding cells_of
waits_in_place s = go s.trip
  where
    go : (trip : Option Tripped) → cells_of (waited (record s { trip = trip })) ≡ cells_of (record s { trip = trip })
    go (Some trip) = refl
    go None = rw (same_detectors s.now s.detectors, same_phases s.now s.phases, same_preempts s.now s.preempts, same_overlaps s.now s.overlaps s.omitted) refl

pub writes_nothing : (i : Input) (before after : State) → IsQuiet before after → (record_of i before after).entries ≡ []
writes_nothing i before after quiet =
    rw (quiet, waits_in_place before) (diff-same (cells_of before))
