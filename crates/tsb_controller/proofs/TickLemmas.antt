-- What the steps of a tick say of the rows, one after the other, comes to the one step of the state that is read in them.
use Rattle.std.proofs.Common.{◌≡◌, ℕ, ◌+◌, ◌-◌, ◌≤◌, Bool, true, false, not, ◌&&◌, if◌then◌else◌, List, Option, Some, None, is_some, option_map, refl, sym, ap, ap₂, ◌∙◌, inl, inr, arith, subst, slice_index}
use Rattle.std.proofs.Math.Path.{fun_ext}
use Rattle.std.proofs.lemmas.Bool.{and_parts, cases_Bool, true≢false}
use Rattle.std.proofs.lemmas.Bool.Decides.{nat_tests}
use Rattle.tsb_cells.specs.declared.timer.Timer.{Timer}
use Rattle.tsb_cells.specs.declared.timer.Timer.TheVariants.{Off}
use Rattle.tsb_cells.proofs.TimerLemmas.{timer_at-this}
use Rattle.tsb_step.specs.tsb_types.declared.limits.TheConstants.{PREEMPTS}
use Rattle.tsb_step.specs.tsb_types.declared.flow.Called.{Called}
use Rattle.tsb_step.specs.tsb_types.declared.flow.Intervals.{Intervals}
use Rattle.tsb_step.specs.tsb_types.declared.flow.Moves.{Moves}
use Rattle.tsb_step.specs.tsb_types.declared.flow.Orders.{Orders}
use Rattle.tsb_step.specs.tsb_types.declared.flow.OverlapLights.{OverlapLights}
use Rattle.tsb_step.specs.tsb_types.declared.flow.Timing.{Timing}
use Rattle.tsb_step.specs.tsb_types.declared.lamp.Lamp.{Lamp}
use Rattle.tsb_step.specs.tsb_types.declared.phase_set.PhaseSet.{PhaseSet}
use Rattle.tsb_step.specs.tsb_types.declared.row.Row.{Row}
use Rattle.tsb_step.specs.tsb_types.Clip.{Agree}
use Rattle.tsb_step.specs.tsb_types.Flow.{interval_of, target_of}
use Rattle.tsb_step.specs.tsb_types.Intervals.{is_green}
use Rattle.tsb_step.specs.tsb_types.Sets.{has, has_detector, has_number, is_phase, set_of_list}
use Rattle.tsb_step.proofs.tsb_types.ClipLemmas.{among_16, clipped-agrees, is_phase_from, within-agrees}
use Rattle.tsb_step.specs.tsb_plan.Plan.{Plan, sequence}
use Rattle.tsb_step.specs.tsb_plan.Parts.{call_phase, is_anew}
use Rattle.tsb_detect.specs.Cells.{detector_in}
use Rattle.tsb_detect.specs.Detector.{Detector, of_called, all_after}
use Rattle.tsb_detect.specs.Promises as detect
use Rattle.tsb_detect.proofs.StateLemmas.{same-after, ticks-all}
use Rattle.tsb_calls.specs.declared.decided.Decided.{Decided}
use Rattle.tsb_calls.specs.Cells.{memories_in}
use Rattle.tsb_calls.specs.Looks as calls_looks
use Rattle.tsb_calls.specs.Memories.{Memories, as_set, has_output}
use Rattle.tsb_calls.specs.Promises as calls
use Rattle.tsb_calls.proofs.LookLemmas.{look-alike}
use Rattle.tsb_calls.proofs.NextLemmas.{ticks-give}
use Rattle.tsb_phase.specs.declared.conditions.Conditions as phase_conditions
use Rattle.tsb_phase.specs.Cells as phase_cells
use Rattle.tsb_phase.specs.Cells.{phase_in, row_in}
use Rattle.tsb_phase.specs.Laws as phase_laws
use Rattle.tsb_phase.specs.Laws.{IsToldTheSame}
use Rattle.tsb_phase.specs.Moves.{once_ended, once_cleared, once_started}
use Rattle.tsb_phase.specs.Next as phase_next
use Rattle.tsb_phase.specs.Phase as phase
use Rattle.tsb_phase.specs.Phase.{Phase, at_power_up, as_read, none_moved}
use Rattle.tsb_phase.specs.Promises as phases
use Rattle.tsb_phase.proofs.MoveLemmas.{one_by_one}
use Rattle.tsb_phase.proofs.OwnLemmas.{looks_only}
use Rattle.tsb_ring.specs.declared.ring_order.RingOrder.TheVariants.{Ring1First}
use Rattle.tsb_ring.specs.Cells.{rings_in}
use Rattle.tsb_ring.specs.Looks as ring_looks
use Rattle.tsb_ring.specs.Looks.{AgreeOnTargets}
use Rattle.tsb_ring.specs.Moves as ring_moves
use Rattle.tsb_ring.specs.Moves.{is_ended, is_started}
use Rattle.tsb_ring.specs.Next as rings_next
use Rattle.tsb_ring.specs.Promises as rings
use Rattle.tsb_ring.specs.GivenUp.{given_up}
use Rattle.tsb_ring.specs.Rings as ring_words
use Rattle.tsb_ring.specs.Rings.{Ring1, Ring2, number}
use Rattle.tsb_ring.proofs.ActLemmas.{acts_as_next}
use Rattle.tsb_ring.proofs.LookLemmas.{moves-same}
use Rattle.tsb_ring.proofs.MoveLemmas.{ends_ready, clears_over}
use Rattle.tsb_heads.specs.Laws as heads_laws
use Rattle.tsb_heads.specs.Reading.{commitment_of, shown_by}
use Rattle.tsb_heads.proofs.OwnLemmas.{some_lasts-same}
use Rattle.tsb_coord.specs.Cells.{pattern_in, correction_in, start_in}
use Rattle.tsb_coord.specs.Correction.{forces, lets_walk_again}
use Rattle.tsb_preempt.specs.Cells.{preempts_in}
use Rattle.tsb_preempt.specs.Laws as preempt_laws
use Rattle.tsb_preempt.specs.Preempts as preempts_words
use Rattle.tsb_preempt.specs.Preempts.{Preempts, is_preempt}
use Rattle.tsb_preempt.specs.Promises as preempts
use Rattle.tsb_preempt.specs.Service.{Service}
use Rattle.tsb_preempt.proofs.OwnLemmas.{orders-as-next, ticks-as-next}
use Rattle.tsb_transact.specs.Desk.{Desk}
use Rattle.tsb_step.specs.State.{State, interval}
use Rattle.tsb_step.specs.Tick as tick
use Rattle.tsb_step.specs.Tick.{preempts_given, calls_given, phases_given, rings_given, new_detectors, set, callable, conflict, pedestrian_call, ready, over, held, lets_go, reverted, gapped, walks_again, service, moves, moved, done, after_moves, gives_up, new_rings, overlaps_given, next}
use Rattle.tsb_step.specs.Signs.{is_lasting, shown as shown_of}
use Rattle.tsb_overlap.specs.Cells.{omitted_in, overlap_in}
use Rattle.tsb_overlap.specs.Overlap as overlap_words
use Rattle.tsb_overlap.specs.Overlap.{is_held}
use Rattle.tsb_overlap.specs.Reading as overlap_reading
use Rattle.tsb_overlap.specs.Laws as overlap_laws
use Rattle.tsb_overlap.specs.Promises as overlap_promises
use Rattle.tsb_overlap.proofs.OwnLemmas.{ticks-as_next, untimed-settles}
use Rattle.tsb_step.proofs.ClipLemmas.{clipped_holds}
use Rattle.tsb_step.proofs.GiveUpLemmas.{gives_none}
use Rattle.tsb_controller.specs.declared.values.Sensed.{Sensed}
use Rattle.tsb_controller.specs.declared.values.Movement.{Movement}
use Rattle.tsb_controller.specs.Carried.{moved_by}
use Rattle.tsb_controller.specs.Found.{observed, for_rings, IsSensed, IsRunOn, IsMoved, IsFollowing, IsSettled, LeavesAllButOverlaps, LeavesAllButRings, TellsLasting, IsGivenUpOutside, IsGivenUpFor, IsGivenUp, AreConditions, AreDecided}
use Rattle.tsb_controller.specs.Promises.{IsTicked}
use Rattle.tsb_controller.specs.Rows.{Rows, AreBy, untripped, state_of}
use Rattle.tsb_controller.proofs.PlacedLemmas.{IsPlaced, for_calls, within}
use Rattle.tsb_phase.proofs.StateLemmas.{outside as at-rest}

-- ## Words

pub green-set : (i : Intervals) (p : ℕ) → has i.green p ≡ is_green (interval_of i p)
green-set i p = go (has i.green p) (has i.yellow p) (has i.red_clear p) refl refl refl
  where
    go : (g y r : Bool) → has i.green p ≡ g → has i.yellow p ≡ y → has i.red_clear p ≡ r → has i.green p ≡ is_green (interval_of i p)
    go true y r e f h = rw e refl
    go false true r e f h = rw (e, f) refl
    go false false true e f h = rw (e, f, h) refl
    go false false false e f h = rw (e, f, h) refl

-- the interval timer that tick `now` reads
pub timer-read : (now : ℕ) (row : List ℕ) (p : ℕ) → 1 ≤ now → 1 ≤ p → p ≤ 16 → phase_cells.IsBy (now - 1) row →
    (phase_in now row p).timer ≡ (as_read (phase_in (now - 1) row p)).timer
unfolding phase_in row_in
timer-read now row p one from to by =
    rw (is_phase_from p from to) (timer_at-this now (slice_index row (3 + p)) one (by.each p from to).timer)

-- the green timer of the phase that a detector calls, as of all phases
pub called-green : (t : State) (o : Option ℕ) → of_called (λ p. tick.green_timer t (Some p)) o ≡ tick.green_timer t o
called-green t None = refl
called-green t (Some p) = refl

same-targets : (a b : Option (ℕ → Bool)) → a ≡ b → AgreeOnTargets a b
same-targets a b e = subst (AgreeOnTargets a) e (own a)
  where
    own : (o : Option (ℕ → Bool)) → AgreeOnTargets o o
    own None = tt
    own (Some f) = λ p from to. refl

pub alike-own : (m : Memories) → calls_looks.AreAlike m m
alike-own m = record { vehicle = λ p from to. refl; pedestrian = λ p from to. refl; count = λ p from to. refl }

pub stays : (plan : Plan) (g : phase.Given) (m : phase.Moved) (p : ℕ) (was : Phase) → was ≡ at_power_up → m.starts p ≡ false → m.ends p ≡ false →
    phase_next.next plan g m p was ≡ at_power_up
stays plan g m p was e starts ends = rw (e, starts, ends) refl

pub outside : (b : Bool) (p : ℕ) → is_phase p ≡ false → (b ≡ true → (1 ≤ p) × (p ≤ 16)) → b ≡ false
outside false p out known = refl
outside true p out known =
    let at = known refl in absurd (true≢false (sym (is_phase_from p at.0 at.1) ∙ out))

-- overlaps that show nothing, which is as good as any to what does not look at them
abbrev pub unlit : OverlapLights
unlit = record { green = set_of_list 0; flashing = set_of_list 0; yellow = set_of_list 0 }

-- all that the rings do to a phase once its times have run
abbrev once : Plan → phase.Given → phase.Moved → ℕ → Bool → Phase → Phase
once plan g x p by_gap y = once_started plan g x p (once_cleared x p (once_ended plan g x p by_gap y))

-- ## The tick
--
-- `old` are the rows before it, `sensed_rows` once preempts and detectors have run, `mid` the calls' once they are set;
-- `run_row` the overlaps' once they have run on, and `moved_rows` once the moves are carried out

module _ (now : ℕ) (plan : Plan) (desk : Desk) (lamp : Option Lamp) (row : Row) (old sensed_rows : Rows) (mid : List ℕ) (s : Sensed) (called : Called)
    (one : 1 ≤ now) (placed : IsPlaced plan) (by : AreBy (now - 1) old)
    (sensed : IsSensed now row plan old sensed_rows s)
    (sets : calls.IsSet (observed row s) plan old.calls mid)
    (calls_told : calls.TellsCalled (observed row s) plan old.calls called) where
  abbrev pub t : State
  t = state_of (now - 1) (untripped plan desk lamp) old

  now_is : now ≡ now - 1 + 1
  now_is = omega arith

  shown : Agree (interval_of s.intervals) (interval t)
  shown p from to = sensed.shown (now - 1) p from to

  -- ### Detectors

  greens-agree : Agree (detect.green_timer now sensed.greens) (λ p. tick.green_timer t (Some p))
  greens-agree p from to =
      ap₂ (λ (b : Bool) (x : Timer). if b then x else Off)
      (ap (λ (set : PhaseSet). has set p) sensed.greens_are ∙ green-set s.intervals p ∙ ap is_green (shown p from to))
      (sensed.since_are now p from to ∙ timer-read now old.phases p one from to by.phases)

  pub detectors_are : detector_in now sensed_rows.detectors ≡ new_detectors t row
  unfolding new_detectors
  detectors_are =
      ticks-all now row sensed.greens plan old.detectors sensed_rows.detectors sensed.detected
      ∙ same-after plan now (has_detector row.vehicles) (has_detector row.vehicles) (detect.green_timer now sensed.greens) (λ p. tick.green_timer t (Some p))
      (detector_in (now - 1) old.detectors) (detector_in (now - 1) old.detectors)
      (λ d from to. placed.called d) (λ d from to. refl) greens-agree (λ d from to. refl)
      ∙ ap₂ (λ (n : ℕ) (green : ℕ → Timer). all_after plan n (has_detector row.vehicles) green (detector_in (now - 1) old.detectors)) now_is
      (fun_ext (λ d. called-green t (call_phase plan d)))

  -- ### Preempts

  alike : preempt_laws.AreAlike (preempts.given_by row s.intervals) (preempts_given t row)
  alike = record { row = λ n from to. sym (one_of_all n from to); interval = shown }
    where
      one_of_all : (n : ℕ) → 1 ≤ n → n ≤ PREEMPTS → (is_preempt n && has_number row.preempts n) ≡ has_number row.preempts n
      one_of_all n from to = let is : is_preempt n ≡ true = grind (arith, nat_tests) in rw is refl

  pub preempts_are : preempts_in now sensed_rows.preempts ≡ preempts_words.next plan (preempts_given t row) (preempts_in (now - 1) old.preempts)
  preempts_are =
      ticks-as-next now row s.intervals plan old.preempts sensed_rows.preempts (preempts_given t row) placed.count placed.preempts alike (λ n out. rw out refl) by.preempts sensed.preempts_by sensed.preempted

  wanted : preempts.AreOrders plan (preempts_given t row) (preempts_words.as_read (preempts_in (now - 1) old.preempts)) s.asked
  wanted = orders-as-next now row s.intervals plan old.preempts (preempts_given t row) s.asked placed.count placed.preempts alike sensed.wanted

  served : s.service ≡ service t row
  unfolding tick.new_service
  served = sensed.served now ∙ ap (λ (f : Preempts). option_map (λ (x : Service). x.preempt) f.service) preempts_are

  -- ### Calls

  calls_alike : calls_looks.AgreeOnPhases plan (calls.given_of (observed row s)) (calls_given t row)
  calls_alike = record {
    output = λ d from to. sensed.outputs_are now d from (omega (arith, to, placed.detectors)) ∙ ap (λ (f : ℕ → Detector). (f d).output) detectors_are;
    actuated = λ d from to. sensed.actuated_are now d from (omega (arith, to, placed.detectors)) ∙ ap (λ (f : ℕ → Detector). (f d).actuated) detectors_are;
    button = λ d from to. refl;
    interval = shown;
    pedestrian_part = λ p from to. sensed.walking (now - 1) p from to;
    runs = sensed.ordered.runs;
    omitted = λ p from to. sensed.ordered.omit p from to ∙ sym (clipped-agrees (tick.omitted t) p from to);
    service_ended = wanted.ended;
  }

  look : calls_looks.LookAlike plan (calls.given_of (observed row s)) (calls_given t row)
  look = look-alike plan (calls.given_of (observed row s)) (calls_given t row) placed.count calls_alike

  as_sets : calls_looks.AreAlike (as_set plan (calls.given_of (observed row s)) t.memories) (set t row)
  as_sets = look.sets t.memories t.memories (alike-own t.memories)

  called_alike : calls_looks.AreCalledAlike plan (calls.given_of (observed row s)) (calls_given t row)
      (as_set plan (calls.given_of (observed row s)) t.memories) (set t row)
  called_alike = look.called (as_set plan (calls.given_of (observed row s)) t.memories) (set t row) as_sets

  callable_is : Agree (has called.callable) (callable t row)
  callable_is p from to = (calls_told p from to).callable ∙ called_alike.callable p from to

  pedestrian_is : Agree (has called.pedestrian) (pedestrian_call t row)
  pedestrian_is p from to = (calls_told p from to).pedestrian ∙ called_alike.pedestrian p from to

  -- ### Conditions of phase timing

  module _ (conditions : phase_conditions.Conditions) (counts : List ℕ) (lent : calls.LendsCounts mid counts) (are : AreConditions s called counts conditions) where
    pub phases_alike : phase_laws.AgreeOnPhases (phases.given_of conditions) (phases_given t row)
    unfolding phases_given
    phases_alike = record {
      output = λ p from to. ap (λ (x : Called). has x.output p) are.called_are ∙ (calls_told p from to).output ∙ called_alike.output p from to
          ∙ sym (clipped-agrees (has_output plan (calls_given t row)) p from to);
      conflict = λ p from to. ap (λ (x : Called). has x.conflict p) are.called_are ∙ (calls_told p from to).conflict ∙ called_alike.conflict p from to
          ∙ sym (clipped-agrees (conflict t row) p from to);
      callable = λ p from to. ap (λ (x : Called). has x.callable p) are.called_are ∙ callable_is p from to ∙ sym (clipped-agrees (callable t row) p from to);
      pedestrian_call = λ p from to. ap (λ (x : Called). has x.pedestrian p) are.called_are ∙ pedestrian_is p from to
          ∙ sym (clipped-agrees (pedestrian_call t row) p from to);
      count = λ p from to. ap (λ (xs : List ℕ). slice_index xs (p - 1)) are.counts_are
          ∙ (lent p from to).same ∙ (sets p from to).count ∙ as_sets.count p from to ∙ sym (within-agrees 0 (set t row).count p from to);
      runs = are.runs_is ∙ sensed.ordered.runs;
      service = are.service_is ∙ served;
      hold = λ p from to. ap (λ (x : Orders). has x.hold p) are.orders_are ∙ sensed.ordered.hold p from to ∙ sym (clipped-agrees (tick.hold t) p from to);
      must_end = λ p from to. ap (λ (x : Orders). has x.must_end p) are.orders_are ∙ wanted.must_end p from to
          ∙ sym (clipped-agrees (tick.must_end t row) p from to);
      forced = λ p from to. ap (λ (x : Orders). has x.forced p) are.orders_are ∙ sensed.ordered.forced p from to
          ∙ ap (λ (n : ℕ). forces plan t.pattern t.correction n p) now_is ∙ sym (clipped-agrees (tick.forced t) p from to);
      recycle = λ p from to. ap (λ (x : Orders). has x.recycle p) are.orders_are ∙ sensed.ordered.recycle p from to
          ∙ ap (λ (n : ℕ). lets_walk_again plan t.pattern t.correction n p) now_is ∙ sym (clipped-agrees (tick.recycle t) p from to);
    }

    pub told : (p : ℕ) → 1 ≤ p → p ≤ 16 → IsToldTheSame plan (phases.given_of conditions) (phases_given t row) p
    told p from to = looks_only plan (phases.given_of conditions) (phases_given t row) placed.count phases_alike p from to

  -- ### Phases

  module _ (run_row : List ℕ) (holding : PhaseSet) (moved_rows : Rows) (m : Movement)
      (ran : IsRunOn now s plan (record old { detectors = sensed_rows.detectors; calls = mid; preempts = sensed_rows.preempts })
      (record old { detectors = sensed_rows.detectors; calls = mid; preempts = sensed_rows.preempts; overlaps = run_row }) holding)
      (run : IsMoved now s called holding plan (record old { detectors = sensed_rows.detectors; calls = mid; preempts = sensed_rows.preempts; overlaps = run_row }) moved_rows m) where
    alike_here : (p : ℕ) → 1 ≤ p → p ≤ 16 → IsToldTheSame plan (phases.given_of run.conditions) (phases_given t row) p
    alike_here = told run.conditions run.counts run.lent run.conditions_are

    abbrev was : ℕ → Phase
    was p = phase_in (now - 1) old.phases p

    ready_is : Agree (has m.timing.ready) (ready t row)
    ready_is p from to = ap (λ (x : Timing). has x.ready p) run.held_back.rest ∙ run.ready p from to ∙ (alike_here p from to).ready (as_read (was p))

    gapped_is : Agree (has m.timing.gapped) (gapped t row)
    gapped_is p from to = ap (λ (x : Timing). has x.gapped p) run.held_back.rest ∙ run.gapped p from to ∙ (alike_here p from to).gapped (as_read (was p))

    walks_are : Agree (has m.timing.walks) (walks_again t row)
    walks_are p from to = ap (λ (x : Timing). has x.walks p) run.held_back.rest ∙ run.walks p from to ∙ (alike_here p from to).walks (as_read (was p))

    ticked_is : Agree (phase_in now run.timed) (λ p. phase_next.ticked plan (phases_given t row) p (was p))
    ticked_is p from to = run.ticked p from to ∙ (alike_here p from to).goes_on none_moved none_moved (was p) (record { ends = refl; clears = refl; starts = refl })

    -- ### Held phases

    held_is : Agree (has holding) (held t row)
    unfolding held
    held_is p from to = ran.holding p from to ∙ ap (λ (o : Option ℕ). is_held plan (is_some o) (overlap_in (now - 1) old.overlaps) p) served

    over_is : Agree (has m.timing.over) (lets_go t row)
    over_is p from to = run.held_back.over p ∙ ap₂ (λ (a b : Bool). a && not b) (run.over p from to) (held_is p from to)

    -- ### Rings

    rings_alike : ring_looks.AgreeOnPhases (rings.given_of plan (for_rings s called m.timing)) (rings_given t row)
    unfolding rings_given
    rings_alike = record {
      interval = shown;
      sequence = λ r. ap (λ (n : ℕ). sequence plan n (number r)) sensed.ordered.sequence;
      callable = λ p from to. callable_is p from to ∙ sym (clipped-agrees (callable t row) p from to);
      omitted = λ p from to. sensed.ordered.omit p from to ∙ sym (clipped-agrees (tick.omitted t) p from to);
      ready = λ p from to. ready_is p from to ∙ sym (clipped-agrees (ready t row) p from to);
      over = λ p from to. over_is p from to ∙ sym (clipped-agrees (lets_go t row) p from to);
      reverted = λ p from to. ap (λ (x : Timing). has x.red_revert_passed p) run.held_back.rest ∙ run.reverted p from to ∙ sym (clipped-agrees (reverted t) p from to);
      target = same-targets _ (tick.target t row) wanted.target;
    }

    pub moves_are : m.moves ≡ moves t row
    unfolding moves
    moves_are =
        run.decided
        ∙ moves-same plan (rings_in old.rings) (rings.given_of plan (for_rings s called m.timing)) (rings_given t row) (within plan old.rings placed by.rings) rings_alike

    pub rings_are : rings_in moved_rows.rings ≡ rings_next.next plan (rings_in old.rings) (rings_given t row)
    unfolding moves
    rings_are =
        run.acted ∙ ap (λ (x : Moves). ring_moves.acted Ring1First x (rings_in old.rings)) moves_are
        ∙ acts_as_next plan (rings_in old.rings) (rings_given t row) Ring1First

    -- ### Phases once the moves are carried out

    -- the rings end only greens, and clear only what is over
    are-moves : (p : ℕ) → phase_laws.AreMoves plan (moved t row) p (was p)
    unfolding moves rings_given
    are-moves p = record {
      ends_greens = λ on. (ends_ready plan t.rings (rings_given t row) p on).0;
      clears_overs = λ on. (and_parts (over t p) (not (held t row p)) (clipped_holds (lets_go t row) p (clears_over plan t.rings (rings_given t row) p on))).0;
    }

    once-same : (x : phase.Moved) (p : ℕ) (by_gap : Bool) (y : Phase) → 1 ≤ p → p ≤ 16 → once plan (phases.given_of run.conditions) x p by_gap y ≡ once plan (phases_given t row) x p by_gap y
    once-same x p by_gap y from to =
        ap₂ (λ (f : Phase → Phase) (e : Phase). let moved_on : Phase = once_cleared x p (if x.ends p then e else y) in if x.starts p then f moved_on else moved_on)
        (fun_ext (λ z. (alike_here p from to).starts z)) ((alike_here p from to).ends by_gap y)

    started-off : (p : ℕ) → is_phase p ≡ false → (moved t row).starts p ≡ false
    started-off p out = outside ((moved t row).starts p) p out (λ on. run.ones.starts p (subst (λ (x : Moves). is_started x p ≡ true) (sym moves_are) on))

    ended-off : (p : ℕ) → is_phase p ≡ false → (moved t row).ends p ≡ false
    ended-off p out = outside ((moved t row).ends p) p out (λ on. run.ones.ends p (subst (λ (x : Moves). is_ended x p ≡ true) (sym moves_are) on))

    pub phases_are : phase_in now moved_rows.phases ≡ (λ p. phase_next.next plan (phases_given t row) (moved t row) p (was p))
    phases_are = fun_ext (λ p. at p)
      where
        h : phase.Given
        h = phases_given t row

        inside : (p : ℕ) → 1 ≤ p → p ≤ 16 → phase_in now moved_rows.phases p ≡ phase_next.next plan h (moved t row) p (was p)
        inside p from to =
            run.carried p from to
            ∙ once-same (moved_by m.moves) p (has m.timing.gapped p) (phase_in now run.timed p) from to
            ∙ ap (λ (x : Moves). once plan h (moved_by x) p (has m.timing.gapped p) (phase_in now run.timed p)) moves_are
            ∙ ap₂ (λ (by_gap : Bool) (y : Phase). once plan h (moved t row) p by_gap y) (gapped_is p from to) (ticked_is p from to)
            ∙ one_by_one plan h p (was p) (was p).interval ((moved t row).ends p) ((moved t row).clears p) ((moved t row).starts p)
            (record { ends_greens = (are-moves p).ends_greens; clears_overs = (are-moves p).clears_overs })

        at : (p : ℕ) → phase_in now moved_rows.phases p ≡ phase_next.next plan h (moved t row) p (was p)
        at p = elim (cases_Bool (is_phase p)) [
          | inl on ↦ inside p (among_16 p on).from (among_16 p on).to
          | inr out ↦
              at-rest now moved_rows.phases p out
              ∙ sym (stays plan h (moved t row) p (was p) (at-rest (now - 1) old.phases p out) (started-off p out) (ended-off p out))
        ]

    -- ### Rings once they have given up

    -- what an overlap lasts through is seen of phases and rings alone
    lasting_is : (b : Bool) → TellsLasting plan moved_rows b → b ≡ is_lasting (after_moves t row)
    unfolding moves
    lasting_is b h =
        h.told s.pedestrians unlit false
        ∙ some_lasts-same plan (shown_by h.intervals s.pedestrians h.ring_1 h.ring_2 unlit false) (shown_of (after_moves t row)) placed.count alike_then
      where
        alike_then : heads_laws.ServeAlike (shown_by h.intervals s.pedestrians h.ring_1 h.ring_2 unlit false) (shown_of (after_moves t row))
        alike_then = record {
          interval = λ p from to. h.intervals_are now p from to ∙ ap (λ (f : ℕ → Phase). (f p).interval) phases_are;
          commitment = λ r. ap₂ (λ (a b : Option ℕ). commitment_of a b r) (h.first_is ∙ ap (λ (x : ring_words.State). x.commitment Ring1) rings_are)
              (h.second_is ∙ ap (λ (x : ring_words.State). x.commitment Ring2) rings_are);
        }

    module _ (given_rows : Rows) (gave : IsGivenUp s plan moved_rows given_rows) where
      -- where nothing is given up, the rings are as they moved
      kept_are : given_rows.rings ≡ moved_rows.rings → gives_up t row ≡ false → rings_in given_rows.rings ≡ new_rings t row
      unfolding new_rings
      kept_are same none = rw none (ap rings_in same ∙ rings_are)

      -- and where no preempt has a target
      idle_are : given_rows.rings ≡ moved_rows.rings → tick.target t row ≡ None → rings_in given_rows.rings ≡ new_rings t row
      unfolding new_rings given_up
      idle_are same none = ap rings_in same ∙ rings_are ∙ go (gives_up t row)
        where
          go : (b : Bool) → (after_moves t row).rings ≡ (if b then given_up plan (tick.target t row) (after_moves t row).rings else (after_moves t row).rings)
          go true = rw none refl
          go false = refl

      given_by : (target : PhaseSet) → tick.target t row ≡ Some (has target) → is_anew plan (service t row) ≡ true → IsGivenUpOutside (has target) plan moved_rows given_rows →
          rings_in given_rows.rings ≡ new_rings t row
      unfolding new_rings gives_up
      given_by target asks anew g = go g.lasts refl
        where
          lasting : (b : Bool) → g.lasts ≡ b → is_lasting (after_moves t row) ≡ b
          lasting b e = sym (lasting_is g.lasts g.lasts_is) ∙ e

          go : (b : Bool) → g.lasts ≡ b → rings_in given_rows.rings ≡ new_rings t row
          go true e = rw (anew, lasting true e) (ap rings_in (g.stays e) ∙ rings_are)
          go false e =
              rw (anew, lasting false e)
              (g.given e ∙ ap₂ (λ (o : Option (ℕ → Bool)) (x : ring_words.State). given_up plan o x) (sym asks) rings_are)

      pub given_are : rings_in given_rows.rings ≡ new_rings t row
      given_are = by_choice (is_anew plan s.service) refl gave
        where
          by_target : (o : Option PhaseSet) → s.asked.target ≡ o → is_anew plan s.service ≡ true → IsGivenUpFor o plan moved_rows given_rows →
              rings_in given_rows.rings ≡ new_rings t row
          by_target None e anew g = idle_are (ap (λ (r : Rows). r.rings) g) (sym wanted.target ∙ ap target_of e)
          by_target (Some target) e anew g =
              given_by target (sym wanted.target ∙ ap target_of e) (sym (ap (is_anew plan) served) ∙ anew) g

          by_choice : (b : Bool) → is_anew plan s.service ≡ b → IsGivenUpFor (if b then s.asked.target else None) plan moved_rows given_rows →
              rings_in given_rows.rings ≡ new_rings t row
          by_choice true e g = by_target s.asked.target refl e g
          by_choice false e g =
              kept_are (ap (λ (r : Rows). r.rings) g) (gives_none t row (sym (ap (is_anew plan) served) ∙ e))

    -- ### Calls once they are settled

    pub memories_are : (d : Decided) (new : List ℕ) → AreDecided s called m d → calls.IsSettled d mid new → memories_in new ≡ (next t row).memories
    memories_are d new decided settled =
        ticks-give plan (calls_given t row) (done t row) (observed row s) d old.calls mid new (for_calls plan placed) calls_alike
        (record {
          starts = λ p from to. decided.starts_are p ∙ ap (λ (x : Moves). is_started x p) moves_are;
          ends = λ p from to. decided.ends_are p ∙ ap (λ (x : Moves). is_ended x p) moves_are;
          gapped = λ p from to. ap (λ (x : PhaseSet). has x p) decided.gapped_are ∙ gapped_is p from to ∙ sym (clipped-agrees (gapped t row) p from to);
          walks = λ p from to. ap (λ (x : PhaseSet). has x p) decided.walks_are ∙ walks_are p from to ∙ sym (clipped-agrees (walks_again t row) p from to);
          service = decided.service_is ∙ served;
        })
        (record { starts = started-off; ends = ended-off })
        (λ p from to. ap (λ (x : PhaseSet). has x p) decided.pedestrian_are ∙ pedestrian_is p from to)
        sets settled

    -- ### Overlaps once they follow

    module _ (rings_row : List ℕ) (rings_given_are : rings_in rings_row ≡ new_rings t row) (settled_rows : Rows)
        (follows : IsSettled now s plan
        (record old { detectors = sensed_rows.detectors; calls = mid; phases = moved_rows.phases; rings = rings_row; preempts = sensed_rows.preempts; overlaps = run_row }) settled_rows) where
      abbrev followed : Rows
      followed = record old { detectors = sensed_rows.detectors; calls = mid; phases = moved_rows.phases; rings = rings_row; preempts = sensed_rows.preempts; overlaps = run_row }

      -- as the tick begins
      began : overlap_promises.IsRunOn now (overlaps_given t row).preempted plan old.overlaps run_row
      began = subst (λ (n : Option ℕ). overlap_promises.IsRunOn now (is_some n) plan old.overlaps run_row) served ran.state

      -- what they see
      seen_alike : (f : IsFollowing now s plan followed settled_rows) →
          overlap_laws.AreAlike (overlap_reading.given_by now f.seen (omitted_in run_row) unlit) (overlaps_given t row)
      seen_alike f = record {
        was_green = λ p from to. ap (λ (set : PhaseSet). has set p) f.seen_are.was_green_is ∙ green-set s.intervals p ∙ ap is_green (shown p from to);
        interval = λ p from to. f.seen_are.intervals_are now p from to ∙ ap (λ (x : ℕ → Phase). (x p).interval) phases_are;
        pedestrian = λ p from to. f.seen_are.pedestrians_are now p from to ∙ ap (λ (x : ℕ → Phase). (x p).pedestrian) phases_are;
        commitment = λ r. ap₂ (λ (a b : Option ℕ). commitment_of a b r) (f.seen_are.first_is ∙ ap (λ (x : ring_words.State). x.commitment Ring1) rings_given_are)
            (f.seen_are.second_is ∙ ap (λ (x : ring_words.State). x.commitment Ring2) rings_given_are);
        timer = λ p from to. f.seen_are.since_are now p from to ∙ ap (λ (x : ℕ → Phase). (x p).timer) phases_are;
        preempted = f.seen_are.preempted_is ∙ ap (λ (n : Option ℕ). is_some n) served;
        omitted = λ o from to. ap (λ (f : ℕ → Bool). f o) ran.omitted;
      }

      own : overlap_laws.AreAlike (overlaps_given t row) (overlaps_given t row)
      own = record {
        was_green = λ p from to. refl;
        interval = λ p from to. refl;
        pedestrian = λ p from to. refl;
        commitment = λ r. refl;
        timer = λ p from to. refl;
        preempted = refl;
        omitted = λ o from to. refl;
      }

      pub overlaps_are : overlap_in now settled_rows.overlaps ≡ overlap_words.next plan (overlaps_given t row) (overlap_in (now - 1) old.overlaps)
      overlaps_are = elim follows [
        | inl none ↦
            ticks-as_next now plan (overlaps_given t row) (overlaps_given t row) old.overlaps run_row settled_rows.overlaps placed.count placed.timed own began
            (λ o from to. ap (λ (r : Rows). overlap_in now r.overlaps o) none.1 ∙ sym (untimed-settles plan (overlaps_given t row) o (overlap_in now run_row o) (none.0 o)))
        | inr f ↦
            ticks-as_next now plan (overlap_reading.given_by now f.seen (omitted_in run_row) unlit) (overlaps_given t row) old.overlaps run_row settled_rows.overlaps placed.count placed.timed
            (seen_alike f) began (f.state unlit)
      ]

      pub omitted_are : omitted_in settled_rows.overlaps ≡ omitted_in old.overlaps
      omitted_are = elim follows [
        | inl none ↦ ap (λ (r : Rows). omitted_in r.overlaps) none.1 ∙ ran.omitted
        | inr f ↦ f.omitted ∙ ran.omitted
      ]

    -- ### All of it

    pub joined : (given_rows settled_rows : Rows) → IsGivenUp s plan moved_rows given_rows → IsSettled now s plan
        (record old { detectors = sensed_rows.detectors; calls = mid; phases = moved_rows.phases; rings = given_rows.rings; preempts = sensed_rows.preempts; overlaps = run_row }) settled_rows →
        (d : Decided) (new : List ℕ) → AreDecided s called m d → calls.IsSettled d mid new →
        state_of now (untripped plan desk lamp) (record old { detectors = sensed_rows.detectors; calls = new; phases = moved_rows.phases; rings = given_rows.rings; preempts = sensed_rows.preempts; overlaps = settled_rows.overlaps })
        ≡ next t row
    joined given_rows settled_rows gave follows d new decided settles = λ i. record {
      now = now_is i;
      plan = plan;
      desk = desk;
      pattern = pattern_in old.pattern;
      correction = correction_in old.pattern;
      start_moment = start_in old.pattern;
      detectors = detectors_are i;
      memories = memories_are d new decided settles i;
      phases = phases_are i;
      rings = given_are given_rows gave i;
      preempts = preempts_are i;
      overlaps = overlaps_are given_rows.rings (given_are given_rows gave) settled_rows follows i;
      omitted = omitted_are given_rows.rings (given_are given_rows gave) settled_rows follows i;
      lamp = lamp;
      trip = None;
    }

-- The rows after the tick, from the rows after each step: no step changes a row but its own.
pub stepped : (now : ℕ) (plan : Plan) (row : Row) (old sensed_rows run_rows moved_rows given_rows settled_rows : Rows) (mid new : List ℕ) (s : Sensed) (called : Called) (holding : PhaseSet) (m : Movement) (d : Decided) →
    1 ≤ now → IsPlaced plan → AreBy (now - 1) old → IsSensed now row plan old sensed_rows s →
    calls.IsSet (observed row s) plan sensed_rows.calls mid → calls.TellsCalled (observed row s) plan sensed_rows.calls called →
    IsRunOn now s plan (record sensed_rows { calls = mid }) run_rows holding →
    IsMoved now s called holding plan run_rows moved_rows m → IsGivenUp s plan moved_rows given_rows →
    LeavesAllButRings moved_rows given_rows → IsSettled now s plan given_rows settled_rows → LeavesAllButOverlaps given_rows settled_rows →
    AreDecided s called m d → calls.IsSettled d settled_rows.calls new →
    IsTicked now row plan old (record settled_rows { calls = new })
stepped now plan row old sensed_rows run_rows moved_rows given_rows settled_rows mid new s called holding m d one placed by sensed sets calls_told ran run gave rest follows others decided settles desk lamp =
    let sensed_are : (record sensed_rows { calls = mid }) ≡ record old { detectors = sensed_rows.detectors; calls = mid; preempts = sensed_rows.preempts } =
    ap (λ (r : Rows). let set_rows : Rows = record r { calls = mid } in set_rows) sensed.rest in
    let run_are : run_rows ≡ record old { detectors = sensed_rows.detectors; calls = mid; preempts = sensed_rows.preempts; overlaps = run_rows.overlaps } =
    ran.rest ∙ ap (λ (r : Rows). let run_on_rows : Rows = record r { overlaps = run_rows.overlaps } in run_on_rows) sensed_are in
    let own_ran : IsRunOn now s plan (record old { detectors = sensed_rows.detectors; calls = mid; preempts = sensed_rows.preempts })
    (record old { detectors = sensed_rows.detectors; calls = mid; preempts = sensed_rows.preempts; overlaps = run_rows.overlaps }) holding =
    subst (λ (r : Rows). IsRunOn now s plan (record old { detectors = sensed_rows.detectors; calls = mid; preempts = sensed_rows.preempts }) r holding) run_are
    (subst (λ (r : Rows). IsRunOn now s plan r run_rows holding) sensed_are ran) in
    let own_run : IsMoved now s called holding plan (record old { detectors = sensed_rows.detectors; calls = mid; preempts = sensed_rows.preempts; overlaps = run_rows.overlaps }) moved_rows m =
    subst (λ (r : Rows). IsMoved now s called holding plan r moved_rows m) run_are run in
    let given_are : given_rows ≡ record old { detectors = sensed_rows.detectors; calls = mid; phases = moved_rows.phases; rings = given_rows.rings; preempts = sensed_rows.preempts; overlaps = run_rows.overlaps } =
    rest ∙ ap (λ (r : Rows). let given_up_rows : Rows = record r { rings = given_rows.rings } in given_up_rows) own_run.rest in
    let all : settled_rows ≡ record old { detectors = sensed_rows.detectors; calls = mid; phases = moved_rows.phases; rings = given_rows.rings; preempts = sensed_rows.preempts; overlaps = settled_rows.overlaps } =
    others ∙ ap (λ (r : Rows). let following_rows : Rows = record r { overlaps = settled_rows.overlaps } in following_rows) given_are in
    ap (λ (r : Rows). state_of now (untripped plan desk lamp) (record r { calls = new })) all
    ∙ joined now plan desk lamp row old sensed_rows mid s called one placed by sensed
    (subst (λ (r : Rows). calls.IsSet (observed row s) plan r.calls mid) sensed.rest sets)
    (subst (λ (r : Rows). calls.TellsCalled (observed row s) plan r.calls called) sensed.rest calls_told)
    run_rows.overlaps holding moved_rows m own_ran own_run given_rows settled_rows gave
    (subst (λ (r : Rows). IsSettled now s plan r settled_rows) given_are follows)
    d new decided (subst (λ (xs : List ℕ). calls.IsSettled d xs new) (ap (λ (r : Rows). r.calls) all) settles)
