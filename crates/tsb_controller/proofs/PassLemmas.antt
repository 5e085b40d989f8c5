-- After a tick that left the phases as they were each tick with the same inputs finds what that one found, up to the one
-- that is due: so it changes no cell.
use Rattle.std.proofs.Common.{◌≡◌, ℕ, ◌+◌, ◌-◌, ◌<◌, ◌≤◌, Bool, true, false, not, ◌&&◌, if◌then◌else◌, List, Option, Some, None, is_some, is_none, refl, sym, ap, ap₂, subst, ◌∙◌, inl, inr, arith, slice_index}
use Rattle.std.proofs.Math.Path.{fun_ext}
use Rattle.std.proofs.lemmas.Bool.{cases_Bool}
use Rattle.std.proofs.lemmas.Bool.Decides.{nat_tests}
use Rattle.tsb_cells.specs.declared.timer.Timer.{Timer}
use Rattle.tsb_cells.specs.declared.timer.Timer.TheVariants.{Off}
use Rattle.tsb_step.specs.tsb_types.declared.limits.TheConstants.{OVERLAPS, PREEMPTS}
use Rattle.tsb_step.specs.tsb_types.declared.flow.Called.{Called}
use Rattle.tsb_step.specs.tsb_types.declared.flow.Moves.{Moves}
use Rattle.tsb_step.specs.tsb_types.declared.flow.Orders.{Orders}
use Rattle.tsb_step.specs.tsb_types.declared.flow.Timing.{Timing}
use Rattle.tsb_step.specs.tsb_types.declared.lamp.Lamp.{Lamp}
use Rattle.tsb_step.specs.tsb_types.declared.phase_set.PhaseSet.{PhaseSet}
use Rattle.tsb_step.specs.tsb_types.declared.row.Row.{Row}
use Rattle.tsb_step.specs.tsb_types.Clip.{Agree, clipped, within}
use Rattle.tsb_step.specs.tsb_types.Flow.{interval_of}
use Rattle.tsb_step.specs.tsb_types.Intervals.{is_green}
use Rattle.tsb_step.specs.tsb_types.Sets.{has, has_detector, has_number, is_phase}
use Rattle.tsb_step.proofs.tsb_types.ClipLemmas.{among_16, clipped-agrees, clipped-same, within-agrees}
use Rattle.tsb_step.specs.tsb_plan.Plan.{Plan}
use Rattle.tsb_step.specs.tsb_plan.Parts.{call_phase, is_anew}
use Rattle.tsb_detect.specs.Cells.{detector_in}
use Rattle.tsb_detect.specs.Detector.{Detector, all_after, at_power_up, is_detector, next as detector_next, of_called}
use Rattle.tsb_detect.specs.Promises as detect
use Rattle.tsb_detect.proofs.StateLemmas.{same-after, ticks-all}
use Rattle.tsb_calls.specs.Callable as called_words
use Rattle.tsb_calls.specs.Cells.{memories_in}
use Rattle.tsb_calls.specs.Looks as calls_looks
use Rattle.tsb_calls.specs.Memories as memories_words
use Rattle.tsb_calls.specs.Memories.{as_set, has_output}
use Rattle.tsb_calls.specs.Promises as calls
use Rattle.tsb_calls.specs.Settled as settled
use Rattle.tsb_phase.specs.Cells.{phase_in}
use Rattle.tsb_phase.specs.Laws as phase_laws
use Rattle.tsb_phase.specs.Laws.{IsToldTheSame, MoveAlike}
use Rattle.tsb_phase.specs.Next as phase_next
use Rattle.tsb_phase.specs.Phase as phase
use Rattle.tsb_phase.specs.Phase.{none_moved}
use Rattle.tsb_phase.specs.Promises as phases
use Rattle.tsb_phase.specs.Promises.{read_in}
use Rattle.tsb_phase.specs.Pedestrian as pedestrian
use Rattle.tsb_phase.specs.Ready as timing
use Rattle.tsb_phase.proofs.OwnLemmas.{looks_only}
use Rattle.tsb_ring.specs.Cells.{rings_in}
use Rattle.tsb_ring.specs.Moves as ring_moves
use Rattle.tsb_ring.specs.Moves.{is_ended, is_cleared, is_started}
use Rattle.tsb_ring.specs.Next as rings_next
use Rattle.tsb_ring.specs.GivenUp.{given_up}
use Rattle.tsb_ring.specs.Rings as ring_words
use Rattle.tsb_ring.specs.Rings.{Ring1, Ring2, number}
use Rattle.tsb_heads.specs.Laws as heads_laws
use Rattle.tsb_heads.specs.Reading.{commitment_of}
use Rattle.tsb_heads.proofs.OwnLemmas.{some_lasts-same}
use Rattle.tsb_coord.specs.Cells.{pattern_in, correction_in, start_in}
use Rattle.tsb_coord.specs.Coordinated as coordination
use Rattle.tsb_coord.specs.Correction.{forces, lets_walk_again}
use Rattle.tsb_preempt.specs.Cells.{preempts_in}
use Rattle.tsb_preempt.specs.Laws as preempt_laws
use Rattle.tsb_preempt.specs.Preempts as preempts_words
use Rattle.tsb_preempt.specs.Preempts.{Preempts, is_preempt, is_outside, wanted_by}
use Rattle.tsb_preempt.specs.Promises as preempts
use Rattle.tsb_preempt.specs.Service.{Service, service_as_read}
use Rattle.tsb_preempt.proofs.OwnLemmas.{ticks-as-next}
use Rattle.tsb_transact.specs.Desk.{Desk}
use Rattle.tsb_step.specs.State.{State, interval, pedestrian_part}
use Rattle.tsb_step.specs.Signs.{is_lasting, shown as shown_of}
use Rattle.tsb_step.specs.Tick as tick
use Rattle.tsb_step.specs.Tick.{preempts_given, calls_given, phases_given, rings_given, new_detectors, callable, ready, over, held, lets_go, reverted, gapped, walks_again, runs, hold, omitted, forced, recycle, service, service_ended, target, moves, after_moves, gives_up, new_rings, overlaps_given, moved, done, next}
use Rattle.tsb_overlap.specs.Cells.{omitted_in, overlap_in}
use Rattle.tsb_overlap.specs.Laws.{AreAlike}
use Rattle.tsb_overlap.specs.Overlap as overlap_words
use Rattle.tsb_overlap.specs.Overlap.{Overlap, as_read as overlap_as_read, run_on, settled as overlap_settled}
use Rattle.tsb_overlap.specs.Promises as overlaps
use Rattle.tsb_overlap.specs.Reading.{given_by}
use Rattle.tsb_overlap.proofs.OwnLemmas.{settled-same, ticks-as_next, untimed-free, untimed-runs, untimed-settles}
use Rattle.tsb_controller.specs.Found.{observed}
use Rattle.tsb_controller.specs.Passing.{ArePhasesStill, AreOthersStill, AreOverlapsQuiet, IsSettled, NoneRose}
use Rattle.tsb_controller.specs.Promises.{IsTicked}
use Rattle.tsb_controller.specs.Rows.{Rows, AreBy, untripped, state_of}
use Rattle.tsb_controller.proofs.OverlapLemmas.{held-same, interval-any, read-on}
use Rattle.tsb_controller.proofs.PlacedLemmas.{IsPlaced}
use Rattle.tsb_controller.proofs.TickLemmas.{green-set, timer-read, called-green, stays, unlit}
use Rattle.tsb_controller.proofs.CarryLemmas.{same-interval}
use Rattle.tsb_phase.proofs.StateLemmas.{outside as at-rest}
use Rattle.tsb_controller.proofs.ChangeLemmas.{rows-stay}
use Rattle.tsb_controller.proofs.KeptLemmas as kept
use Rattle.tsb_controller.proofs.LaterLemmas.{part-at, output-at, actuated-at, output_in, actuated_in, number_of, number-at, wanted-at, not-ended, set-has, timing_of}

-- a preempt is in service where its number is there
served-number : (n : Option Service) → is_some n ≡ is_some (number_of n)
served-number None = refl
served-number (Some x) = refl

-- ## No output rose

rises-not : (x y : Bool) → x ≡ y → (x && not y) ≡ false
rises-not x true same = rw same refl
rises-not x false same = rw same refl

-- where another tick leaves the detectors as they are
pub none-rose : (now t : ℕ) (row : Row) (plan : Plan) (r : Rows) (soon : ℕ) → now < t → t < soon → AreOthersStill now row plan r soon → NoneRose now r
none-rose now t row plan r soon behind sooner o d from to = actuated-at now t r.detectors d ∙ ap (λ (f : ℕ → Detector). (f d).actuated) all ∙ rises
  where
    green : ℕ → Timer
    green e = of_called (detect.green_timer t o.greens) (call_phase plan e)

    all : detector_in t r.detectors ≡ all_after plan t (has_detector row.vehicles) green (detector_in (t - 1) r.detectors)
    all = ticks-all t row o.greens plan r.detectors r.detectors (o.detectors t o.greens behind sooner)

    stays_on : (all_after plan t (has_detector row.vehicles) green (detector_in (t - 1) r.detectors) d).output ≡ (detector_in (t - 1) r.detectors d).output
    stays_on = ap (λ (f : ℕ → Detector). (f d).output) (sym all) ∙ output-at t (t - 1) r.detectors d

    rises : (all_after plan t (has_detector row.vehicles) green (detector_in (t - 1) r.detectors) d).actuated ≡ false
    rises = elim (cases_Bool (is_detector d)) [
      | inl on ↦
          ap (λ (b : Bool). (if b then detector_next plan d t (has_detector row.vehicles d) (green d) (detector_in (t - 1) r.detectors d) else at_power_up).actuated) on
          ∙ rises-not _ (detector_in (t - 1) r.detectors d).output (sym (ap (λ (b : Bool). (if b then detector_next plan d t (has_detector row.vehicles d) (green d) (detector_in (t - 1) r.detectors d) else at_power_up).output) on) ∙ stays_on)
      | inr out ↦ rw out refl
    ]

-- ## Two ticks
--
-- Tick `now` has left the rows `r`, which were the same apart from detectors and calls; tick t comes after it and
-- before the ones that are due.

module _ (now t : ℕ) (plan : Plan) (desk : Desk) (lamp : Option Lamp) (row : Row) (detectors calls_row : List ℕ) (r : Rows) (due soon : ℕ) (one : 1 ≤ now) (behind : now < t)
    (before : t < due) (sooner : t < soon) (placed : IsPlaced plan) (was_by : AreBy (now - 1) (record r { detectors = detectors; calls = calls_row }))
    (ticked : IsTicked now row plan (record r { detectors = detectors; calls = calls_row }) r) (by : AreBy now r) (a : ArePhasesStill now row plan r due) (o : AreOthersStill now row plan r soon) where
  -- the state before tick `now`, and before tick t
  abbrev s : State
  s = state_of (now - 1) (untripped plan desk lamp) (record r { detectors = detectors; calls = calls_row })

  abbrev u : State
  u = state_of (t - 1) (untripped plan desk lamp) r

  now_is : now ≡ now - 1 + 1
  now_is = omega arith

  t_is : t ≡ t - 1 + 1
  t_is = omega arith

  here : state_of now (untripped plan desk lamp) r ≡ next s row
  here = kept.here now plan desk lamp row detectors calls_row r one was_by ticked

  by_before : AreBy (t - 1) r
  by_before = rows-stay now (t - 1) r (omega arith) by

  by_then : AreBy t r
  by_then = rows-stay now t r (omega arith) by

  -- ### Detectors

  shown : Agree (interval_of o.intervals) (interval u)
  shown p from to = o.shown (t - 1) p from to

  greens-agree : Agree (detect.green_timer t o.greens) (λ p. tick.green_timer u (Some p))
  greens-agree p from to =
      ap₂ (λ (b : Bool) (x : Timer). if b then x else Off)
      (ap (λ (list : PhaseSet). has list p) o.greens_are ∙ green-set o.intervals p ∙ ap is_green (shown p from to))
      (o.since_are t p from to ∙ timer-read t r.phases p (omega arith) from to by_before.phases)

  detectors_then : detector_in t r.detectors ≡ new_detectors u row
  unfolding new_detectors
  detectors_then =
      ticks-all t row o.greens plan r.detectors r.detectors (o.detectors t o.greens behind sooner)
      ∙ same-after plan t (has_detector row.vehicles) (has_detector row.vehicles) (detect.green_timer t o.greens) (λ p. tick.green_timer u (Some p))
      (detector_in (t - 1) r.detectors) (detector_in (t - 1) r.detectors)
      (λ d from to. placed.called d) (λ d from to. refl) greens-agree (λ d from to. refl)
      ∙ ap₂ (λ (n : ℕ) (green : ℕ → Timer). all_after plan n (has_detector row.vehicles) green (detector_in (t - 1) r.detectors)) t_is
      (fun_ext (λ d. called-green u (call_phase plan d)))

  detectors_now : detector_in now r.detectors ≡ new_detectors s row
  detectors_now = kept.detectors_now now plan desk lamp row detectors calls_row r one was_by ticked

  -- ### Preempts

  alike : preempt_laws.AreAlike (preempts.given_by row o.intervals) (preempts_given u row)
  alike = record { row = λ n from to. sym (one_of_all n from to); interval = shown }
    where
      one_of_all : (n : ℕ) → 1 ≤ n → n ≤ PREEMPTS → (is_preempt n && has_number row.preempts n) ≡ has_number row.preempts n
      one_of_all n from to = let is : is_preempt n ≡ true = grind (arith, nat_tests) in rw is refl

  preempts_then : preempts_in t r.preempts ≡ preempts_words.next plan (preempts_given u row) (preempts_in (t - 1) r.preempts)
  preempts_then =
      ticks-as-next t row o.intervals plan r.preempts r.preempts (preempts_given u row) placed.count placed.preempts alike (λ n out. rw out refl) by_before.preempts by_then.preempts
      (o.preempts t behind sooner)

  preempts_now : preempts_in now r.preempts ≡ preempts_words.next plan (preempts_given s row) (preempts_in (now - 1) r.preempts)
  preempts_now = kept.preempts_now now plan desk lamp row detectors calls_row r one was_by ticked

  -- what is asked by a service is the same
  same-by : {A : Type 0} (f : Option Service → A) → f (preempts_in t r.preempts).service ≡ f (preempts_in now r.preempts).service →
      f (preempts_words.next plan (preempts_given u row) (preempts_in (t - 1) r.preempts)).service
      ≡ f (preempts_words.next plan (preempts_given s row) (preempts_in (now - 1) r.preempts)).service
  same-by f e = ap (λ (x : Preempts). f x.service) (sym preempts_then) ∙ e ∙ ap (λ (x : Preempts). f x.service) preempts_now

  service_same : service u row ≡ service s row
  unfolding tick.new_service
  service_same = same-by number_of (number-at t now r.preempts)

  target_now : wanted_by plan (preempts_in now r.preempts).service ≡ target s row
  target_now = ap (λ (x : Preempts). wanted_by plan x.service) preempts_now

  target_same : target u row ≡ target s row
  target_same = same-by (wanted_by plan) (wanted-at t now plan r.preempts)

  ended_now : service_ended s row ≡ false
  ended_now = kept.ended_now now plan desk lamp row detectors calls_row r one was_by ticked

  ended_then : service_ended u row ≡ false
  ended_then =
      ap (λ (x : Preempts). is_some (service_as_read (preempts_in (t - 1) r.preempts).service) && is_none x.service) (sym preempts_then)
      ∙ not-ended (t - 1) t r.preempts

  -- ### What the calls are given

  intervals_same : interval u ≡ interval s
  intervals_same = fun_ext (λ p. same-interval (t - 1) (now - 1) r.phases p)

  parts_same : pedestrian_part u ≡ pedestrian_part s
  parts_same = fun_ext (λ p. part-at (t - 1) (now - 1) r.phases p)

  outputs_same : output_in (new_detectors u row) ≡ output_in (new_detectors s row)
  outputs_same =
      fun_ext (λ d. ap (λ (f : ℕ → Detector). (f d).output) (sym detectors_then) ∙ output-at t now r.detectors d ∙ ap (λ (f : ℕ → Detector). (f d).output) detectors_now)

  actuated_same : actuated_in (new_detectors u row) ≡ actuated_in (new_detectors s row)
  actuated_same =
      fun_ext (λ d. ap (λ (f : ℕ → Detector). (f d).actuated) (sym detectors_then) ∙ actuated-at t now r.detectors d ∙ ap (λ (f : ℕ → Detector). (f d).actuated) detectors_now)

  ended_same : service_ended u row ≡ service_ended s row
  ended_same = ended_then ∙ sym ended_now

  calls_same : calls_given u row ≡ calls_given s row
  calls_same = λ i. record {
    output = outputs_same i;
    actuated = actuated_same i;
    button = has_number row.pedestrians;
    interval = intervals_same i;
    pedestrian_part = parts_same i;
    runs = runs s;
    omitted = clipped (omitted s);
    service_ended = ended_same i;
  }

  -- what tick `now` set is set again
  calm : NoneRose now r
  calm = none-rose now t row plan r soon behind sooner o

  set_same : tick.set u row ≡ tick.set s row
  set_same =
      ap (λ (g : memories_words.Given). as_set plan g (memories_in r.calls)) calls_same
      ∙ kept.stands now plan desk lamp row detectors calls_row r one was_by ticked placed calm
      ∙ kept.memories_now now plan desk lamp row detectors calls_row r one was_by ticked

  -- ### What phase timing is given

  forced_agree : Agree (forced u) (forced s)
  forced_agree p from to =
      ap (λ (n : ℕ). forces plan (pattern_in r.pattern) (correction_in r.pattern) n p) (sym t_is)
      ∙ sym ((o.coordination t behind sooner a.sensed.coordination a.seen.ordered).forced p from to)
      ∙ a.seen.ordered.forced p from to
      ∙ ap (λ (n : ℕ). forces plan (pattern_in r.pattern) (correction_in r.pattern) n p) now_is

  forced_same : clipped (forced u) ≡ clipped (forced s)
  forced_same = clipped-same (forced u) (forced s) forced_agree

  recycle_agree : Agree (recycle u) (recycle s)
  recycle_agree p from to =
      ap (λ (n : ℕ). lets_walk_again plan (pattern_in r.pattern) (correction_in r.pattern) n p) (sym t_is)
      ∙ sym ((o.coordination t behind sooner a.sensed.coordination a.seen.ordered).recycle p from to)
      ∙ a.seen.ordered.recycle p from to
      ∙ ap (λ (n : ℕ). lets_walk_again plan (pattern_in r.pattern) (correction_in r.pattern) n p) now_is

  recycle_same : clipped (recycle u) ≡ clipped (recycle s)
  recycle_same = clipped-same (recycle u) (recycle s) recycle_agree

  phases_same : phases_given u row ≡ phases_given s row
  unfolding phases_given
  phases_same = λ i. record {
    output = clipped (has_output plan (calls_same i));
    conflict = clipped (called_words.has_conflict plan (calls_same i) (set_same i));
    callable = clipped (called_words.is_callable plan (calls_same i) (set_same i));
    pedestrian_call = clipped (called_words.has_pedestrian_call plan (calls_same i) (set_same i));
    count = within 0 (set_same i).count;
    runs = runs s;
    service = service_same i;
    hold = clipped (hold s);
    must_end = clipped (is_outside (target_same i));
    forced = forced_same i;
    recycle = recycle_same i;
  }

  -- ### What tick `now` found, by what was seen

  look : calls_looks.LookAlike plan (calls.given_of (observed row a.sensed)) (calls_given s row)
  look = kept.look now plan desk lamp row detectors calls_row r one was_by ticked placed a.sensed a.seen

  as_sets : calls_looks.AreAlike (as_set plan (calls.given_of (observed row a.sensed)) (memories_in r.calls)) (tick.set s row)
  as_sets =
      subst (calls_looks.AreAlike (as_set plan (calls.given_of (observed row a.sensed)) (memories_in r.calls))) (kept.memories_now now plan desk lamp row detectors calls_row r one was_by ticked)
      (kept.as_sets now plan desk lamp row detectors calls_row r one was_by ticked placed a.sensed a.seen calm)

  called_alike : calls_looks.AreCalledAlike plan (calls.given_of (observed row a.sensed)) (calls_given s row)
      (as_set plan (calls.given_of (observed row a.sensed)) (memories_in r.calls)) (tick.set s row)
  called_alike = look.called (as_set plan (calls.given_of (observed row a.sensed)) (memories_in r.calls)) (tick.set s row) as_sets

  phases_alike : phase_laws.AgreeOnPhases (phases.given_of a.conditions) (phases_given s row)
  unfolding phases_given tick.new_service
  phases_alike = record {
    output = λ p from to. ap (λ (x : Called). has x.output p) a.told.conditions_are.called_are ∙ (a.told.calls_told p from to).output ∙ called_alike.output p from to
        ∙ sym (clipped-agrees (has_output plan (calls_given s row)) p from to);
    conflict = λ p from to. ap (λ (x : Called). has x.conflict p) a.told.conditions_are.called_are ∙ (a.told.calls_told p from to).conflict ∙ called_alike.conflict p from to
        ∙ sym (clipped-agrees (tick.conflict s row) p from to);
    callable = λ p from to. ap (λ (x : Called). has x.callable p) a.told.conditions_are.called_are ∙ (a.told.calls_told p from to).callable ∙ called_alike.callable p from to
        ∙ sym (clipped-agrees (callable s row) p from to);
    pedestrian_call = λ p from to. ap (λ (x : Called). has x.pedestrian p) a.told.conditions_are.called_are ∙ (a.told.calls_told p from to).pedestrian ∙ called_alike.pedestrian p from to
        ∙ sym (clipped-agrees (tick.pedestrian_call s row) p from to);
    count = λ p from to. ap (λ (xs : List ℕ). slice_index xs (p - 1)) a.told.conditions_are.counts_are
        ∙ (a.told.lent p from to).same ∙ (a.told.sets p from to).count ∙ as_sets.count p from to ∙ sym (within-agrees 0 (tick.set s row).count p from to);
    runs = a.told.conditions_are.runs_is ∙ a.seen.ordered.runs;
    service = a.told.conditions_are.service_is ∙ a.seen.served now ∙ served_now;
    hold = λ p from to. ap (λ (x : Orders). has x.hold p) a.told.conditions_are.orders_are ∙ a.seen.ordered.hold p from to ∙ sym (clipped-agrees (hold s) p from to);
    must_end = λ p from to. ap (λ (x : Orders). has x.must_end p) a.told.conditions_are.orders_are ∙ a.seen.standing.must_end p from to
        ∙ ap (λ (f : Option (ℕ → Bool)). is_outside f p) (a.seen.standing.target ∙ target_now) ∙ sym (clipped-agrees (tick.must_end s row) p from to);
    forced = λ p from to. ap (λ (x : Orders). has x.forced p) a.told.conditions_are.orders_are ∙ a.seen.ordered.forced p from to
        ∙ ap (λ (n : ℕ). forces plan (pattern_in r.pattern) (correction_in r.pattern) n p) now_is ∙ sym (clipped-agrees (forced s) p from to);
    recycle = λ p from to. ap (λ (x : Orders). has x.recycle p) a.told.conditions_are.orders_are ∙ a.seen.ordered.recycle p from to
        ∙ ap (λ (n : ℕ). lets_walk_again plan (pattern_in r.pattern) (correction_in r.pattern) n p) now_is ∙ sym (clipped-agrees (recycle s) p from to);
  }
    where
      served_now : number_of (preempts_in now r.preempts).service ≡ service s row
      served_now = ap (λ (x : Preempts). number_of x.service) preempts_now

  told : (p : ℕ) → 1 ≤ p → p ≤ 16 → IsToldTheSame plan (phases.given_of a.conditions) (phases_given s row) p
  told p from to = looks_only plan (phases.given_of a.conditions) (phases_given s row) placed.count phases_alike p from to

  -- ### Overlaps

  -- what they saw in tick `now`
  seen_now : (f : AreOverlapsQuiet now plan r soon) → AreAlike (given_by now f.seen (omitted_in r.overlaps) unlit) (overlaps_given s row)
  unfolding tick.new_service preempts_words.new_service
  seen_now f = record {
    was_green = λ p from to. ap (λ (set : PhaseSet). has set p) f.seen_are.was_green_is ∙ green-set f.intervals p ∙ ap is_green (f.shown (now - 1) p from to);
    interval = λ p from to. f.seen_are.intervals_are now p from to ∙ ap (λ (x : State). interval x p) here;
    pedestrian = λ p from to. f.seen_are.pedestrians_are now p from to ∙ ap (λ (x : State). pedestrian_part x p) here;
    commitment = λ n. ap₂ (λ (a b : Option ℕ). commitment_of a b n) (f.seen_are.first_is ∙ ap (λ (x : State). x.rings.commitment Ring1) here)
        (f.seen_are.second_is ∙ ap (λ (x : State). x.rings.commitment Ring2) here);
    timer = λ p from to. f.seen_are.since_are now p from to ∙ ap (λ (x : State). (x.phases p).timer) here;
    preempted = f.seen_are.preempted_is ∙ f.served now ∙ ap (λ (x : Preempts). is_some x.service) preempts_now ∙ served-number _;
    omitted = λ n from to. refl;
  }

  -- and it left them as they were
  standing : (f : AreOverlapsQuiet now plan r soon) → overlaps.AreStanding now (given_by now f.seen (omitted_in r.overlaps) unlit) plan r.overlaps
  unfolding overlap_words.next
  standing f n from to =
      settled-same plan (given_by now f.seen (omitted_in r.overlaps) unlit) (overlaps_given s row) placed.count (seen_now f) n from to _
      ∙ ap (λ (b : Bool). overlap_settled plan (overlaps_given s row) n (run_on plan b n (overlap_as_read (overlap_in (now - 1) r.overlaps n)))) (seen_now f).preempted
      ∙ sym (ap (λ (x : State). x.overlaps n) here)

  quiet-at : (f : AreOverlapsQuiet now plan r soon) (n : ℕ) → now ≤ n → n < soon → overlaps.AreQuiet n (given_by n f.seen (omitted_in r.overlaps) unlit) plan r.overlaps
  quiet-at f n later early = f.quiet n unlit later early (standing f)

  -- in which interval each begins a tick
  begins-in : (f : AreOverlapsQuiet now plan r soon) (k : ℕ) → now ≤ k → k < soon → (n : ℕ) → 1 ≤ n → n ≤ OVERLAPS →
      (run_on plan f.seen.is_preempted n (overlap_as_read (overlap_in (k - 1) r.overlaps n))).interval ≡ (overlap_in now r.overlaps n).interval
  begins-in f k later early n from to =
      ap (λ (x : Overlap). x.interval) (sym ((quiet-at f k later early).runs n from to)) ∙ interval-any k now r.overlaps n

  held-quiet : (f : AreOverlapsQuiet now plan r soon) (p : ℕ) →
      overlap_words.is_held plan (is_some (service u row)) (overlap_in (t - 1) r.overlaps) p ≡ overlap_words.is_held plan (is_some (service s row)) (overlap_in (now - 1) r.overlaps) p
  held-quiet f p =
      ap (λ (b : Bool). overlap_words.is_held plan b (overlap_in (t - 1) r.overlaps) p) (ap is_some service_same ∙ sym (seen_now f).preempted)
      ∙ held-same plan f.seen.is_preempted (overlap_in (t - 1) r.overlaps) (overlap_in (now - 1) r.overlaps) p placed.overlaps
      (λ n from to. begins-in f t (omega arith) sooner n from to ∙ sym (begins-in f now (omega arith) (omega arith) n from to))
      ∙ ap (λ (b : Bool). overlap_words.is_held plan b (overlap_in (now - 1) r.overlaps) p) (seen_now f).preempted

  -- ### What phase timing finds

  abbrev tells : Timing
  tells = timing_of now plan (phases.given_of a.conditions) r.phases

  ready_agree : Agree (ready u row) (ready s row)
  ready_agree p from to =
      ap (λ (g : phase.Given). timing.is_ready plan g p (read_in t r.phases p)) phases_same
      ∙ sym ((told p from to).ready (read_in t r.phases p))
      ∙ sym (a.ready t behind before tells (set-has (λ q. timing.is_ready plan (phases.given_of a.conditions) q (read_in now r.phases q))) p from to)
      ∙ set-has (λ q. timing.is_ready plan (phases.given_of a.conditions) q (read_in now r.phases q)) p from to
      ∙ (told p from to).ready (read_in now r.phases p)

  gapped_agree : Agree (gapped u row) (gapped s row)
  gapped_agree p from to =
      ap (λ (g : phase.Given). timing.is_gapped_now plan g p (read_in t r.phases p)) phases_same
      ∙ sym ((told p from to).gapped (read_in t r.phases p))
      ∙ sym (a.gapped t behind before tells (set-has (λ q. timing.is_gapped_now plan (phases.given_of a.conditions) q (read_in now r.phases q))) p from to)
      ∙ set-has (λ q. timing.is_gapped_now plan (phases.given_of a.conditions) q (read_in now r.phases q)) p from to
      ∙ (told p from to).gapped (read_in now r.phases p)

  walks_agree : Agree (walks_again u row) (walks_again s row)
  walks_agree p from to =
      ap (λ (g : phase.Given). pedestrian.walks_again g p (read_in t r.phases p)) phases_same
      ∙ sym ((told p from to).walks (read_in t r.phases p))
      ∙ sym (a.walks t behind before tells (set-has (λ q. pedestrian.walks_again (phases.given_of a.conditions) q (read_in now r.phases q))) p from to)
      ∙ set-has (λ q. pedestrian.walks_again (phases.given_of a.conditions) q (read_in now r.phases q)) p from to
      ∙ (told p from to).walks (read_in now r.phases p)

  over_agree : Agree (over u) (over s)
  over_agree p from to =
      sym (a.over t behind before tells (set-has (λ q. timing.is_over plan q (read_in now r.phases q))) p from to)
      ∙ set-has (λ q. timing.is_over plan q (read_in now r.phases q)) p from to

  -- whoever is held in clearance was so in tick `now`
  held_agree : Agree (held u row) (held s row)
  unfolding held
  held_agree p from to = elim o.overlaps [
    | inl none ↦
        untimed-free plan (is_some (service u row)) (overlap_in (t - 1) r.overlaps) p none
        ∙ sym (untimed-free plan (is_some (service s row)) (overlap_in (now - 1) r.overlaps) p none)
    | inr some ↦ held-quiet some p
  ]

  let_go_agree : Agree (lets_go u row) (lets_go s row)
  let_go_agree p from to = ap₂ (λ (a b : Bool). a && not b) (over_agree p from to) (held_agree p from to)

  reverted_agree : Agree (reverted u) (reverted s)
  reverted_agree p from to =
      sym (a.reverted t behind before tells (set-has (λ q. timing.red_revert_passed plan q (read_in now r.phases q))) p from to)
      ∙ set-has (λ q. timing.red_revert_passed plan q (read_in now r.phases q)) p from to

  ready_same : clipped (ready u row) ≡ clipped (ready s row)
  ready_same = clipped-same (ready u row) (ready s row) ready_agree

  gapped_same : clipped (gapped u row) ≡ clipped (gapped s row)
  gapped_same = clipped-same (gapped u row) (gapped s row) gapped_agree

  walks_same : clipped (walks_again u row) ≡ clipped (walks_again s row)
  walks_same = clipped-same (walks_again u row) (walks_again s row) walks_agree

  let_go_same : clipped (lets_go u row) ≡ clipped (lets_go s row)
  let_go_same = clipped-same (lets_go u row) (lets_go s row) let_go_agree

  reverted_same : clipped (reverted u) ≡ clipped (reverted s)
  reverted_same = clipped-same (reverted u) (reverted s) reverted_agree

  -- ### Rings

  rings_same : rings_given u row ≡ rings_given s row
  unfolding rings_given
  rings_same = λ i. record {
    interval = intervals_same i;
    sequence = λ x. coordination.serving_order plan (pattern_in r.pattern) (number x);
    callable = clipped (called_words.is_callable plan (calls_same i) (set_same i));
    omitted = clipped (omitted s);
    ready = ready_same i;
    over = let_go_same i;
    reverted = reverted_same i;
    target = target_same i;
  }

  moves_same : moves u row ≡ moves s row
  unfolding moves
  moves_same = ap (ring_moves.moves plan (rings_in r.rings)) rings_same

  -- ### Calls

  done_same : done u row ≡ done s row
  done_same = λ i. record {
    starts = is_started (moves_same i);
    ends = is_ended (moves_same i);
    gapped = gapped_same i;
    walks = walks_same i;
    service = service_same i;
  }

  memories_then : memories_in r.calls ≡ settled.next plan (calls_given u row) (done u row) (memories_in r.calls)
  memories_then =
      sym (kept.stands now plan desk lamp row detectors calls_row r one was_by ticked placed calm)
      ∙ sym (kept.unmoved now plan desk lamp row detectors calls_row r one was_by ticked (memories_in r.calls))
      ∙ sym (ap₂ (λ (g : memories_words.Given) (d : settled.Done). settled.next plan g d (memories_in r.calls)) calls_same done_same)

  -- ### Phases

  none-moves : (p : ℕ) → MoveAlike none_moved (moved u row) p
  none-moves p = record {
    ends = sym (ap (λ (x : Moves). is_ended x p) moves_same ∙ kept.ends_none now plan desk lamp row detectors calls_row r one was_by ticked p);
    clears = sym (ap (λ (x : Moves). is_cleared x p) moves_same ∙ kept.clears_none now plan desk lamp row detectors calls_row r one was_by ticked p);
    starts = sym (ap (λ (x : Moves). is_started x p) moves_same ∙ kept.starts_none now plan desk lamp row detectors calls_row r one was_by ticked p);
  }

  phases_then : phase_in t r.phases ≡ (λ p. phase_next.next plan (phases_given u row) (moved u row) p (phase_in (t - 1) r.phases p))
  phases_then = fun_ext (λ p. at p)
    where
      inside : (p : ℕ) → 1 ≤ p → p ≤ 16 → phase_in t r.phases p ≡ phase_next.next plan (phases_given u row) (moved u row) p (phase_in (t - 1) r.phases p)
      inside p from to =
          a.quiet t behind before p from to
          ∙ (told p from to).goes_on none_moved (moved u row) (phase_in (t - 1) r.phases p) (none-moves p)
          ∙ ap (λ (g : phase.Given). phase_next.next plan g (moved u row) p (phase_in (t - 1) r.phases p)) (sym phases_same)

      at : (p : ℕ) → phase_in t r.phases p ≡ phase_next.next plan (phases_given u row) (moved u row) p (phase_in (t - 1) r.phases p)
      at p = elim (cases_Bool (is_phase p)) [
        | inl on ↦ inside p (among_16 p on).from (among_16 p on).to
        | inr out ↦
            at-rest t r.phases p out
            ∙ sym (stays plan (phases_given u row) (moved u row) p (phase_in (t - 1) r.phases p) (at-rest (t - 1) r.phases p out) (sym (none-moves p).starts) (sym (none-moves p).ends))
      ]

  -- ### Rings once they have given up

  rings_moved_same : (after_moves u row).rings ≡ (after_moves s row).rings
  rings_moved_same = ap (rings_next.next plan (rings_in r.rings)) rings_same

  -- what overlaps last through is seen of phases and commitments, and both are the same
  served_same : heads_laws.ServeAlike (shown_of (after_moves u row)) (shown_of (after_moves s row))
  served_same = record {
    interval = λ p from to.
        sym (ap (λ (f : ℕ → phase.Phase). (f p).interval) phases_then) ∙ same-interval t now r.phases p ∙ ap (λ (x : State). interval x p) here;
    commitment = λ n. ap (λ (x : ring_words.State). commitment_of (x.commitment Ring1) (x.commitment Ring2) n) rings_moved_same;
  }

  lasting_same : is_lasting (after_moves u row) ≡ is_lasting (after_moves s row)
  lasting_same = some_lasts-same plan (shown_of (after_moves u row)) (shown_of (after_moves s row)) placed.count served_same

  new_rings_same : new_rings u row ≡ new_rings s row
  unfolding new_rings gives_up
  new_rings_same = λ i.
      (if is_anew plan (service_same i) && not (lasting_same i) then given_up plan (target_same i) (rings_moved_same i) else rings_moved_same i)

  rings_then : rings_in r.rings ≡ new_rings u row
  rings_then = ap (λ (x : State). x.rings) here ∙ sym new_rings_same

  -- ### Overlaps once they follow

  -- what they see in tick t
  seen_then : (f : AreOverlapsQuiet now plan r soon) → AreAlike (given_by t f.seen (omitted_in r.overlaps) unlit) (overlaps_given u row)
  unfolding tick.new_service preempts_words.new_service
  seen_then f = record {
    was_green = λ p from to. ap (λ (set : PhaseSet). has set p) f.seen_are.was_green_is ∙ green-set f.intervals p ∙ ap is_green (f.shown (t - 1) p from to);
    interval = λ p from to. f.seen_are.intervals_are t p from to ∙ ap (λ (x : ℕ → phase.Phase). (x p).interval) phases_then;
    pedestrian = λ p from to. f.seen_are.pedestrians_are t p from to ∙ ap (λ (x : ℕ → phase.Phase). (x p).pedestrian) phases_then;
    commitment = λ n. ap₂ (λ (a b : Option ℕ). commitment_of a b n) (f.seen_are.first_is ∙ ap (λ (x : ring_words.State). x.commitment Ring1) rings_then)
        (f.seen_are.second_is ∙ ap (λ (x : ring_words.State). x.commitment Ring2) rings_then);
    timer = λ p from to. f.seen_are.since_are t p from to ∙ ap (λ (x : ℕ → phase.Phase). (x p).timer) phases_then;
    preempted = f.seen_are.preempted_is ∙ f.served t ∙ ap (λ (x : Preempts). is_some x.service) preempts_then ∙ served-number _;
    omitted = λ n from to. refl;
  }

  -- so a tick leaves them as they were
  overlaps_then : overlap_in t r.overlaps ≡ overlap_words.next plan (overlaps_given u row) (overlap_in (t - 1) r.overlaps)
  overlaps_then = elim o.overlaps [
    | inl none ↦
        ticks-as_next t plan (overlaps_given u row) (overlaps_given u row) r.overlaps r.overlaps r.overlaps placed.count placed.timed own_then
        (λ n from to.
        read-on t r.overlaps (omega arith) by_before.overlaps n
        ∙ sym (untimed-runs plan (overlaps_given u row).preempted n (overlap_as_read (overlap_in (t - 1) r.overlaps n)) (none n)))
        (λ n from to. sym (untimed-settles plan (overlaps_given u row) n (overlap_in t r.overlaps n) (none n)))
    | inr f ↦
        let quiet : overlaps.AreQuiet t (given_by t f.seen (omitted_in r.overlaps) unlit) plan r.overlaps = quiet-at f t (omega arith) sooner in
        ticks-as_next t plan (given_by t f.seen (omitted_in r.overlaps) unlit) (overlaps_given u row) r.overlaps r.overlaps r.overlaps placed.count placed.timed (seen_then f)
        (subst (λ (b : Bool). overlaps.IsRunOn t b plan r.overlaps r.overlaps) (seen_then f).preempted quiet.runs) quiet.settles
  ]
    where
      own_then : AreAlike (overlaps_given u row) (overlaps_given u row)
      own_then = record {
        was_green = λ p from to. refl;
        interval = λ p from to. refl;
        pedestrian = λ p from to. refl;
        commitment = λ n. refl;
        timer = λ p from to. refl;
        preempted = refl;
        omitted = λ n from to. refl;
      }

  -- ### All of it

  passed : state_of t (untripped plan desk lamp) r ≡ next u row
  passed = λ i. record {
    now = t_is i;
    plan = plan;
    desk = desk;
    pattern = pattern_in r.pattern;
    correction = correction_in r.pattern;
    start_moment = start_in r.pattern;
    detectors = detectors_then i;
    memories = memories_then i;
    phases = phases_then i;
    rings = rings_then i;
    preempts = preempts_then i;
    overlaps = overlaps_then i;
    omitted = omitted_in r.overlaps;
    lamp = lamp;
    trip = None;
  }

-- Each tick after one that left the phases as they were leaves all rows so, before the phases and the others are due.
pub passes : (now : ℕ) (plan : Plan) (row : Row) (r : Rows) (due soon t : ℕ) → 1 ≤ now → IsPlaced plan → AreBy now r → IsSettled now row plan r →
    ArePhasesStill now row plan r due → AreOthersStill now row plan r soon → now < t → t < due → t < soon → IsTicked t row plan r r
passes now plan row r due soon t one placed by it a o behind before sooner desk lamp =
    passed now t plan desk lamp row it.old.detectors it.old.calls r due soon one behind before sooner placed
    (subst (AreBy (now - 1)) it.rest it.by) (subst (λ (rows : Rows). IsTicked now row plan rows r) it.rest it.ticked) by a o
