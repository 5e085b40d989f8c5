-- What the cells of the states of a run say, and what the records of a run give back.
use Rattle.std.proofs.Common.{◌≡◌, ℕ, ◌≤◌, false, List, [], ◌∷◌, length, drop, Option, sym, ap, ap₂, subst, arith, ◌∙◌}
use Rattle.tsb_step.specs.tsb_types.declared.interval.PedestrianInterval.TheVariants.{DontWalk}
use Rattle.tsb_step.specs.tsb_types.declared.limits.TheConstants.{TICKS}
use Rattle.tsb_step.specs.tsb_types.Intervals.{is_green}
use Rattle.tsb_step.specs.tsb_plan.Plan.{Plan}
use Rattle.tsb_step.specs.tsb_plan.PlanOf.{plan_cells}
use Rattle.tsb_step.proofs.tsb_plan.ToldLemmas.{length-plan_cells}
use Rattle.tsb_step.specs.tsb_detect.Cells.{detectors_cells, detector_in}
use Rattle.tsb_step.proofs.tsb_detect.StateLemmas as detect
use Rattle.tsb_step.specs.tsb_calls.Cells.{memories_cells}
use Rattle.tsb_step.proofs.tsb_calls.StateLemmas as calls
use Rattle.tsb_step.specs.tsb_phase.Cells.{phases_cells, phase_in}
use Rattle.tsb_step.specs.tsb_phase.Phase.{Phase}
use Rattle.tsb_step.specs.tsb_phase.Laws.{IsInRange, AreInRange}
use Rattle.tsb_step.proofs.tsb_phase.StateLemmas as phases
use Rattle.tsb_step.specs.tsb_ring.Cells.{rings_cells}
use Rattle.tsb_step.proofs.tsb_ring.ToldLemmas as rings
use Rattle.tsb_step.specs.tsb_coord.Cells.{pattern_cells}
use Rattle.tsb_step.specs.tsb_coord.Laws.{IsSelectable, IsCorrectable}
use Rattle.tsb_step.proofs.tsb_coord.CellLemmas as coord
use Rattle.tsb_step.specs.tsb_overlap.Cells.{overlaps_cells, overlap_in}
use Rattle.tsb_overlap.proofs.StateLemmas as overlaps
use Rattle.tsb_step.specs.tsb_preempt.Cells.{preempts_cells, preempts_in}
use Rattle.tsb_step.proofs.tsb_preempt.StateLemmas as preempts
use Rattle.tsb_step.specs.tsb_transact.Cells.{desk_cells}
use Rattle.tsb_step.proofs.tsb_transact.ToldLemmas as desk
use Rattle.tsb_step.specs.tsb_machine.Laws.{GiveBack}
use Rattle.tsb_step.specs.tsb_machine.Past.{after}
use Rattle.tsb_step.proofs.tsb_machine.PastLemmas as past
use Rattle.tsb_controller.specs.Rows.{AreBy}
use Rattle.tsb_controller.specs.Whole.{All, AreFull, AreAllBy, whole, all_in}
use Rattle.tsb_controller.proofs.WholeLemmas.{full, whole-full, whole-read, regrouped}
use Rattle.tsb_step.specs.declared.first_cell.TheConstants.{ALL_CELLS}
use Rattle.tsb_step.specs.declared.inputs.Input.{Input}
use Rattle.tsb_step.specs.Cells.{cells_of, state_in, clock, clock_at}
use Rattle.tsb_step.specs.Good.{IsGood}
use Rattle.tsb_step.specs.MonitorCells.{monitor_cells, trip_in}
use Rattle.tsb_step.specs.Past.{controller, pasts, earlier}
use Rattle.tsb_step.specs.Play.{run, records_of}
use Rattle.tsb_step.specs.Runs.{replay, AreTaken}
use Rattle.tsb_step.specs.State.{State, Tripped, start}
use Rattle.tsb_step.specs.TimeLaws.{Rests}
use Rattle.tsb_step.proofs.GoodLemmas.{good_run}
use Rattle.tsb_step.proofs.MonitorLemmas as monitor
use Rattle.tsb_step.proofs.RestLemmas.{rests_run}
use Rattle.tsb_step.proofs.WayLemmas.{records_give_back}
use Rattle.tsb_laws.specs.Runs.{IsHeld, AreTyped, IsRun}
use Rattle.tsb_laws.specs.WayBack.{HasRows}
use Rattle.tsb_laws.proofs.safety.LastTickLemmas.{run_early}
use Rattle.tsb_laws.proofs.way_back.PlanLemmas.{plan-read}
use Rattle.tsb_laws.proofs.way_back.PhaseLemmas.{RunsIn}
use Rattle.tsb_laws.proofs.way_back.StepLemmas.{IsTold, told-run}

-- ## The rows of a state

abbrev pub rows-of : State → All
rows-of s = record {
  plan = plan_cells s.plan;
  desk = desk_cells s.desk;
  layers = record {
    detectors = detectors_cells (clock s) s.detectors;
    calls = memories_cells s.memories;
    phases = phases_cells (clock s) s.phases;
    rings = rings_cells s.rings;
    pattern = pattern_cells s.pattern s.correction s.start_moment;
    preempts = preempts_cells (clock s) s.preempts;
    overlaps = overlaps_cells (clock s) s.overlaps s.omitted;
  };
  monitor = monitor_cells s.lamp s.trip;
}

pub cells-whole : (s : State) → cells_of s ≡ whole (rows-of s)
unfolding cells_of
cells-whole s =
    regrouped (plan_cells s.plan) (desk_cells s.desk) (detectors_cells (clock s) s.detectors) (memories_cells s.memories) (phases_cells (clock s) s.phases)
    (rings_cells s.rings) (pattern_cells s.pattern s.correction s.start_moment) (preempts_cells (clock s) s.preempts)
    (overlaps_cells (clock s) s.overlaps s.omitted) (monitor_cells s.lamp s.trip)

-- ## Rows that the program can hold

phase-ranged : (now : ℕ) (x : Phase) → RunsIn now x → Rests x → (is_green x.interval ≡ false → x.pedestrian ≡ DontWalk) → IsInRange now x
phase-ranged now x r rests walks = record {
  timer = r.timer;
  pedestrian_timer = r.pedestrian_timer;
  passage = r.passage;
  conflict = r.conflict;
  reduction = r.reduction;
  red_revert = r.red_revert;
  running_maximum = r.running_maximum;
  red = rests.red;
  served = r.served;
  dont_walk = rests.dont_walk;
  walks = r.walks;
  no_walk = walks;
  not_gapped = rests.gapped;
  not_forced = rests.forced;
  no_passage = rests.passage;
  no_conflict = rests.conflict;
  no_reduction = rests.reduction;
}

-- what holds of each state of a run
pub record IsOfRun (s : State) : Type 0 where
  pub told : IsTold s
  pub good : IsGood s
  pub rests : (p : ℕ) → Rests (s.phases p)
  pub since : s.correction.since ≤ TICKS

pub of-run : (plan : Plan) (is : List Input) → IsHeld plan → AreTaken plan is → AreTyped is → IsOfRun (replay plan is)
of-run plan is held taken typed = record {
  told = told-run plan is held taken typed;
  good = good_run plan is held.consistent taken;
  rests = λ p. rests_run plan is p;
  since = (let since : (replay plan is).correction.since ≤ (replay plan is).now = (good_run plan is held.consistent taken).since in
      let early = run_early plan is taken in omega (arith, since, early));
}

module _ (s : State) (is : IsOfRun s) where
  pub phases-ranged : AreInRange (clock s) s.phases
  phases-ranged = record {
    each = λ p from to. phase-ranged (clock s) (s.phases p) (is.told.layers.phases p) (is.rests p) (is.good.walks p);
    others = is.told.layers.others;
  }

  selectable : IsSelectable s.pattern
  selectable = record { from_one = λ n e. (is.good.pattern n e).from_one; within = λ n e. (is.good.pattern n e).within }

  correctable : IsCorrectable s.correction
  correctable = record { since = is.since; ahead = is.told.counting.ahead; midnight = is.told.counting.midnight }

  trip-read : trip_in (monitor_cells s.lamp s.trip) ≡ s.trip
  trip-read = (monitor.state-read s.now s.lamp s.trip is.told.lamp is.told.trip).1

  pub layers-by : AreBy (clock s) (rows-of s).layers
  layers-by = record {
    detectors = detect.states-by (clock s) s.detectors is.told.layers.detectors;
    calls = (calls.calls-read s.memories is.told.layers.memories).by;
    phases = (phases.states-read (clock s) s.phases phases-ranged).by;
    rings = rings.states-by s.rings is.told.layers.rings;
    pattern = coord.pattern_by s.pattern s.correction s.start_moment selectable correctable is.told.counting.start;
    preempts = preempts.states-by (clock s) s.preempts is.told.layers.preempts;
    overlaps = overlaps.states-by (clock s) s.overlaps s.omitted is.told.layers.overlaps;
  }

  pub rows-by : AreAllBy s.now (rows-of s)
  rows-by = record {
    plan = length-plan_cells s.plan;
    desk = (desk.states_are_read s.desk is.told.desk).1.by;
    layers = subst (λ (t : Option Tripped). AreBy (clock_at s.now t) (rows-of s).layers) (sym trip-read) layers-by;
    monitor = (monitor.state-read s.now s.lamp s.trip is.told.lamp is.told.trip).2;
  }

  detectors-read : detector_in (clock_at s.now (trip_in (monitor_cells s.lamp s.trip))) (detectors_cells (clock s) s.detectors) ≡ s.detectors
  detectors-read =
      ap (λ (t : Option Tripped). detector_in (clock_at s.now t) (detectors_cells (clock s) s.detectors)) trip-read
      ∙ detect.states-read (clock s) s.detectors is.told.layers.detectors

  phases-read : phase_in (clock_at s.now (trip_in (monitor_cells s.lamp s.trip))) (phases_cells (clock s) s.phases) ≡ s.phases
  phases-read =
      ap (λ (t : Option Tripped). phase_in (clock_at s.now t) (phases_cells (clock s) s.phases)) trip-read
      ∙ (phases.states-read (clock s) s.phases phases-ranged).same

  preempts-read : preempts_in (clock_at s.now (trip_in (monitor_cells s.lamp s.trip))) (preempts_cells (clock s) s.preempts) ≡ s.preempts
  preempts-read =
      ap (λ (t : Option Tripped). preempts_in (clock_at s.now t) (preempts_cells (clock s) s.preempts)) trip-read
      ∙ preempts.states-read (clock s) s.preempts is.told.layers.preempts

  overlaps-read : overlap_in (clock_at s.now (trip_in (monitor_cells s.lamp s.trip))) (overlaps_cells (clock s) s.overlaps s.omitted) ≡ s.overlaps
  overlaps-read =
      ap (λ (t : Option Tripped). overlap_in (clock_at s.now t) (overlaps_cells (clock s) s.overlaps s.omitted)) trip-read
      ∙ (overlaps.states-read (clock s) s.overlaps s.omitted is.told.layers.overlaps).overlaps

  pub rows-read : all_in s.now (rows-of s) ≡ s
  rows-read = λ i. record {
    now = s.now;
    plan = plan-read s.plan is.told.plan i;
    desk = (desk.states_are_read s.desk is.told.desk).0 i;
    pattern = (coord.pattern_read s.pattern s.correction s.start_moment selectable is.told.counting.start).pattern i;
    correction = (coord.pattern_read s.pattern s.correction s.start_moment selectable is.told.counting.start).correction i;
    start_moment = (coord.pattern_read s.pattern s.correction s.start_moment selectable is.told.counting.start).start i;
    detectors = detectors-read i;
    memories = (calls.calls-read s.memories is.told.layers.memories).same i;
    phases = phases-read i;
    rings = rings.states-read s.rings is.told.layers.rings i;
    preempts = preempts-read i;
    overlaps = overlaps-read i;
    omitted = (overlaps.states-read (clock s) s.overlaps s.omitted is.told.layers.overlaps).omits i;
    lamp = (monitor.state-read s.now s.lamp s.trip is.told.lamp is.told.trip).0 i;
    trip = trip-read i;
  }

  pub full-rows : AreFull (rows-of s)
  full-rows = full s.now (rows-of s) rows-by

  pub cells-tell : state_in s.now (cells_of s) ≡ s
  cells-tell = ap (state_in s.now) (cells-whole s) ∙ whole-read (rows-of s) full-rows s.now ∙ rows-read

  pub cells-full : length (cells_of s) ≡ ALL_CELLS
  cells-full = ap length (cells-whole s) ∙ whole-full (rows-of s) full-rows

-- ## Laws of cells

pub of-a-run : (plan : Plan) (is : List Input) → IsRun plan is → IsOfRun (replay plan is)
of-a-run plan is r = of-run plan is r.plan_held r.taken r.typed

pub equal-cells : (plan other : Plan) (is js : List Input) → IsRun plan is → IsRun other js →
    (replay plan is).now ≡ (replay other js).now → cells_of (replay plan is) ≡ cells_of (replay other js) → replay plan is ≡ replay other js
equal-cells plan other is js r k now cells =
    sym (cells-tell (replay plan is) (of-a-run plan is r)) ∙ ap₂ state_in now cells ∙ cells-tell (replay other js) (of-a-run other js k)

pub has-rows : (plan : Plan) (is : List Input) → IsRun plan is → HasRows (replay plan is)
has-rows plan is r = record {
  rows = rows-of (replay plan is);
  by = rows-by (replay plan is) (of-a-run plan is r);
  read = rows-read (replay plan is) (of-a-run plan is r);
}

-- ## Laws of records

take-back : (plan : Plan) (is : List Input) → IsHeld plan → AreTaken plan is → AreTyped is → GiveBack controller (start plan) is
take-back plan [] held taken typed = tt
take-back plan (i ∷ is) held taken typed =
    let before : IsOfRun (replay plan is) = of-run plan is held taken.0 typed.1 in
    let behind : IsOfRun (replay plan (i ∷ is)) = of-run plan (i ∷ is) held taken typed in (
      take-back plan is held taken.0 typed.1,
      records_give_back (replay plan is) i (cells-tell (replay plan is) before)
          (cells-full (replay plan is) before ∙ sym (cells-full (replay plan (i ∷ is)) behind)),
    )

pub takes-back : (plan : Plan) (is : List Input) → IsRun plan is → GiveBack controller (start plan) is
takes-back plan is r = take-back plan is r.plan_held r.taken r.typed

pub pasts-are : (plan : Plan) (is : List Input) → IsRun plan is → pasts (replay plan is) (records_of plan is) ≡ run plan is
pasts-are plan is r = past.pasts_are_the_run controller (start plan) is (takes-back plan is r)

pub earlier-are : (plan : Plan) (is : List Input) → IsRun plan is → (k : ℕ) → k ≤ length is →
    earlier (after controller (start plan) is) k ≡ after controller (start plan) (drop k is)
earlier-are plan is r k few = past.earlier_are_replays controller (start plan) is (takes-back plan is r) k few
