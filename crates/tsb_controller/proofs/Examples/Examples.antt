-- Rows that meet what the laws of rows and records ask for: of tick 49, as at power-up, except the side that the rings
-- serve. And a tick of them, by computing.
use Rattle.std.proofs.Common.{◌≡◌, ℕ, zero, suc, ◌+◌, ◌≤◌, true, false, [], ◌∷◌, map, None, refl, arith}
use Rattle.tsb_cells.specs.declared.timer.Timer.TheVariants.{On}
use Rattle.tsb_step.specs.tsb_types.Lists.{run_from}
use Rattle.tsb_step.specs.tsb_types.Sets.{number_of_bits, all_off}
use Rattle.tsb_step.specs.tsb_plan.Plan.{empty}
use Rattle.tsb_step.specs.tsb_plan.PlanOf.{plan_cells}
use Rattle.tsb_step.specs.tsb_plan.Two.{two}
use Rattle.tsb_step.proofs.tsb_plan.ToldLemmas.{length-plan_cells}
use Rattle.tsb_detect.specs.Detector as detector
use Rattle.tsb_detect.specs.Cells.{detectors_cells, detector_in, row_in as detector_row}
use Rattle.tsb_detect.specs.Laws as detect
use Rattle.tsb_detect.proofs.StateLemmas.{states-by as detectors-by}
use Rattle.tsb_calls.specs.Memories as calls
use Rattle.tsb_calls.specs.Cells.{memories_cells}
use Rattle.tsb_calls.proofs.StateLemmas.{calls-read}
use Rattle.tsb_phase.specs.Phase as phase
use Rattle.tsb_phase.specs.Cells.{phases_cells, phase_in, row_in as phase_row}
use Rattle.tsb_phase.specs.Laws as phases
use Rattle.tsb_phase.proofs.StateLemmas.{states-read as phases-read}
use Rattle.tsb_ring.specs.Rings as rings
use Rattle.tsb_ring.specs.Cells.{rings_cells, rings_in}
use Rattle.tsb_ring.proofs.ToldLemmas.{states-by as rings-by}
use Rattle.tsb_coord.specs.Cells.{pattern_cells}
use Rattle.tsb_coord.specs.Correction.{in_step}
use Rattle.tsb_preempt.specs.Preempts as preempts
use Rattle.tsb_preempt.specs.Cells.{preempts_cells, preempts_in, service_in}
use Rattle.tsb_preempt.proofs.StateLemmas.{states-by as preempts-by}
use Rattle.tsb_overlap.specs.Overlap as overlap
use Rattle.tsb_heads.specs.Monitoring.{has_green_arrow}
use Rattle.tsb_overlap.specs.Cells.{interval_in, overlap_in, overlaps_cells}
use Rattle.tsb_overlap.specs.Laws as overlaps
use Rattle.tsb_overlap.proofs.StateLemmas.{states-by as overlaps-by}
use Rattle.tsb_transact.specs.Cells.{desk_cells}
use Rattle.tsb_transact.specs.Desk.{closed}
use Rattle.tsb_transact.proofs.DeskLemmas.{sound-closed}
use Rattle.tsb_transact.proofs.ToldLemmas.{states_are_read}
use Rattle.tsb_step.specs.declared.first_cell.TheConstants.{DETECTORS, RINGS}
use Rattle.tsb_step.specs.MonitorCells.{monitor_cells}
use Rattle.tsb_step.specs.State.{State}
use Rattle.tsb_step.specs.Step.{ticked}
use Rattle.tsb_step.specs.Tick.{next}
use Rattle.tsb_step.proofs.Examples.Scenes.{opened}
use Rattle.tsb_step.proofs.MonitorLemmas.{state-read}
use Rattle.tsb_controller.specs.Passing.{ends_before_phases}
use Rattle.tsb_controller.specs.Records.{changes}
use Rattle.tsb_controller.specs.Rows.{Rows, AreBy, state_of, untripped}
use Rattle.tsb_controller.specs.Whole.{All, AreAllBy}

-- ## The rows of the layers

abbrev pub on_side : ℕ → Rows
on_side n = record {
  detectors = detectors_cells 49 (λ d. detector.at_power_up);
  calls = memories_cells calls.at_power_up;
  phases = phases_cells 49 (λ p. phase.at_power_up);
  rings = rings_cells (record rings.power_up { side = n });
  pattern = pattern_cells None in_step None;
  preempts = preempts_cells 49 preempts.at_power_up;
  overlaps = overlaps_cells 49 (λ o. overlap.at_power_up) (λ o. false);
}

detectors_fit : detect.AreStatesBy 49 (λ d. detector.at_power_up)
detectors_fit = record {
  each = λ d from to. record {
    rises = omega arith;
    changed = refl;
    change = omega arith;
    on_time = refl;
    extend = tt;
    present = λ on. refl;
    idle = λ off. refl;
    failed = λ alarm. refl;
  };
  others = λ d out. refl;
}

phase_fits : phases.IsInRange 49 phase.at_power_up
phase_fits = record {
  timer = tt;
  pedestrian_timer = tt;
  passage = tt;
  conflict = tt;
  reduction = tt;
  red_revert = tt;
  running_maximum = omega arith;
  red = λ e. refl;
  served = λ on. absurd cc;
  dont_walk = λ e. refl;
  walks = λ e. absurd cc;
  no_walk = λ e. refl;
  not_gapped = λ e. refl;
  not_forced = λ e. refl;
  no_passage = λ e. refl;
  no_conflict = λ e. refl;
  no_reduction = λ e. refl;
}

overlaps_fit : overlaps.IsStateBy 49 (λ o. overlap.at_power_up) (λ o. false)
overlaps_fit = record { each = λ o from to. record { timer = tt; phase = tt }; others = λ o out. refl; few = λ o out. refl }

can_be : (n : ℕ) → 1 ≤ n → n ≤ 4 → AreBy 49 (on_side n)
can_be n from to = record {
  detectors = detectors-by 49 (λ d. detector.at_power_up) detectors_fit;
  calls = (calls-read calls.at_power_up (record {
    counts = λ p from to. omega arith;
    others = record { vehicle = λ p out. refl; pedestrian = λ p out. refl; count = λ p out. refl };
  })).by;
  phases = (phases-read 49 (λ p. phase.at_power_up) (record { each = λ p from to. phase_fits; others = λ p out. refl })).by;
  rings = rings-by (record rings.power_up { side = n }) (record {
    last = λ r. tt;
    commitment = λ r. tt;
    side = (from, to);
    crossing = tt;
  });
  pattern = record {
    full = refl;
    pattern = omega arith;
    since = omega arith;
    ahead = omega arith;
    midnight = omega arith;
    day = omega arith;
    time = omega arith;
  };
  preempts = preempts-by 49 preempts.at_power_up (record {
    each = λ n from to. record { delay = tt; spent = λ on. absurd cc };
    off = λ n out. record { switch = refl; delay = refl; spent = refl };
    service = tt;
  });
  overlaps = overlaps-by 49 (λ o. overlap.at_power_up) (λ o. false) overlaps_fit;
}

-- ## All rows, with the built-in plan of two phases

abbrev pub all_on_side : ℕ → All
all_on_side n = record {
  plan = plan_cells two;
  desk = desk_cells closed;
  layers = on_side n;
  monitor = monitor_cells None None;
}

all_can_be : (n : ℕ) → 1 ≤ n → n ≤ 4 → AreAllBy 49 (all_on_side n)
all_can_be n from to = record {
  plan = length-plan_cells two;
  desk = (states_are_read closed (record { sound = sound-closed; owner = tt })).1.by;
  layers = can_be n from to;
  monitor = (state-read 49 None None tt tt).2;
}

differ : changes (on_side 1) (on_side 2) ≡ (RINGS + 2, 1) ∷ []
unfolding run_from number_of_bits
differ = refl

differs_not : changes (on_side 1) (on_side 1) ≡ []
unfolding run_from number_of_bits
differs_not = refl

-- ## A record that ends before the phases: detector 1 is occupied

abbrev pub occupied_first : ℕ → detector.Detector
occupied_first (suc zero) = record detector.at_power_up { input = true; on_time = On 0 }
occupied_first zero = detector.at_power_up
occupied_first (suc (suc n)) = detector.at_power_up

abbrev pub occupied : ℕ → Rows
occupied n = record (on_side n) { detectors = detectors_cells 49 occupied_first }

occupied_fits : (d : ℕ) → detect.IsStateBy 49 (occupied_first d)
occupied_fits zero = detectors_fit.each 1 (omega arith) (omega arith)
occupied_fits (suc zero) = record {
  rises = omega arith;
  changed = refl;
  change = omega arith;
  on_time = refl;
  extend = tt;
  present = λ on. refl;
  idle = λ off. refl;
  failed = λ alarm. refl;
}
occupied_fits (suc (suc n)) = detectors_fit.each 1 (omega arith) (omega arith)

outside_is_idle : (d : ℕ) → detector.is_detector d ≡ false → occupied_first d ≡ detector.at_power_up
outside_is_idle zero out = refl
outside_is_idle (suc zero) out = absurd cc
outside_is_idle (suc (suc n)) out = refl

occupied_can_be : (n : ℕ) → 1 ≤ n → n ≤ 4 → AreBy 49 (occupied n)
occupied_can_be n from to = record {
  detectors = detectors-by 49 occupied_first (record { each = λ d from to. occupied_fits d; others = outside_is_idle });
  calls = (can_be n from to).calls;
  phases = (can_be n from to).phases;
  rings = (can_be n from to).rings;
  pattern = (can_be n from to).pattern;
  preempts = (can_be n from to).preempts;
  overlaps = (can_be n from to).overlaps;
}

differs_early : changes (on_side 1) (occupied 1) ≡ (DETECTORS, 0) ∷ []
unfolding run_from number_of_bits
differs_early = refl

ends_early : ends_before_phases (changes (on_side 1) (occupied 1)) ≡ true
unfolding run_from number_of_bits
ends_early = refl

-- ## A tick that changes nothing but the tick number: with a plan that enables no phase

-- what these examples open
unfoldable read : Unit {0}
unfolding opened has_green_arrow overlap_in interval_in number_of_bits detector_in detector_row phase_in phase_row rings_in preempts_in service_in
read = tt

abbrev pub before : State
before = state_of 49 (untripped empty closed None) (on_side 1)

abbrev pub after : State
after = state_of 50 (untripped empty closed None) (on_side 1)

detectors_run_on : map (next before all_off).detectors (run_from 1 16) ≡ map after.detectors (run_from 1 16)
unfolding read
detectors_run_on = refl

phases_stay : map (next before all_off).phases (run_from 1 16) ≡ map after.phases (run_from 1 16)
unfolding read
phases_stay = refl

side_stays : (next before all_off).rings.side ≡ after.rings.side
unfolding read
side_stays = refl

trips_not : (ticked all_off before).trip ≡ None
unfolding read
trips_not = refl
