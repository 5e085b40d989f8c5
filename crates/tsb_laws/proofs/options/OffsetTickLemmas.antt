-- What a tick finds and makes sees offsets, and what these are counted to, only by what coordination asks in it.
use Rattle.std.proofs.Common.{◌≡◌, ℕ, ◌+◌, ◌-◌, ◌*◌, ◌==◌, Bool, true, false, not, ◌&&◌, ◌||◌, if◌then◌else◌, min, max, Option, Some, None, is_some, refl, ap, ap₂, ◌∙◌}
use Rattle.std.proofs.Math.Path.{fun_ext}
use Rattle.tsb_step.specs.tsb_types.Clip.{clipped}
use Rattle.tsb_step.specs.tsb_types.declared.flow.Moves.{Moves}
use Rattle.tsb_step.specs.tsb_types.declared.row.Row.{Row}
use Rattle.tsb_step.specs.tsb_types.Intervals.{is_green, is_dont_walk}
use Rattle.tsb_step.specs.tsb_plan.declared.object.Object.{Object}
use Rattle.tsb_step.specs.tsb_plan.declared.object.Object.TheVariants.{PhaseMaximum1, PhaseMaximum2, UnitMax2}
use Rattle.tsb_step.specs.tsb_plan.Parts.{is_anew}
use Rattle.tsb_step.specs.tsb_plan.Plan.{Plan, maximum, dynamic_maximum_limit, dynamic_maximum_step}
use Rattle.tsb_step.specs.tsb_calls.Callable.{is_callable, has_conflict}
use Rattle.tsb_step.specs.tsb_calls.Memories.{actuations, counted, has_button, has_output, pedestrian_memory, vehicle_memory}
use Rattle.tsb_step.specs.tsb_calls.Settled as settled
use Rattle.tsb_step.specs.tsb_heads.Monitoring.{conflict, conflict_of, green_to_red, has_green_arrow}
use Rattle.tsb_step.specs.tsb_heads.Overlaps.{has_green_modifier, has_yellow_modifier, is_kept_green, is_on_last_yellow, is_on_yellow, lasts, some_lasts}
use Rattle.tsb_step.specs.tsb_overlap.Overlap as overlaps
use Rattle.tsb_step.specs.tsb_phase.declared.ending.Ending.{Ending}
use Rattle.tsb_step.specs.tsb_phase.declared.ending.Ending.TheVariants.{MaxOut, GapOut}
use Rattle.tsb_step.specs.tsb_phase.DynamicMaximum.{is_dynamic, is_same, effective_maximum, maximum_in_use, stepped, running_maximum_after, counts_endings}
use Rattle.tsb_step.specs.tsb_phase.Green.{cars_waiting, conflict_timer, gap, has_reached_some, initial, is_by_gap, is_gapped, initial_has_passed, forced_latch, acting_maximum, reduction_timer}
use Rattle.tsb_step.specs.tsb_phase.Next as phase_next
use Rattle.tsb_step.specs.tsb_phase.Pedestrian.{ended_by, pedestrian_now}
use Rattle.tsb_step.specs.tsb_phase.Pedestrian as pedestrian
use Rattle.tsb_step.specs.tsb_phase.Phase as phase
use Rattle.tsb_step.specs.tsb_phase.Ready.{green_is_done, is_over, is_ready, needs_forced, red_revert_passed}
use Rattle.tsb_step.specs.tsb_phase.Ready as timing
use Rattle.tsb_step.specs.tsb_preempt.Preempts.{beginning, dwell_ends, requesting}
use Rattle.tsb_step.specs.tsb_preempt.Preempts as preempts
use Rattle.tsb_step.specs.tsb_preempt.Service.{all_green}
use Rattle.tsb_step.specs.tsb_ring.Crossings.{begins, committed, entry, target_side}
use Rattle.tsb_step.specs.tsb_ring.GivenUp.{given_up}
use Rattle.tsb_step.specs.tsb_ring.Moves as ring_moves
use Rattle.tsb_step.specs.tsb_ring.Next.{clears, completes, ends, new_commitment, new_crossing, new_last, new_side, starting}
use Rattle.tsb_step.specs.tsb_ring.Next as rings_next
use Rattle.tsb_step.specs.tsb_ring.Rings.{serving}
use Rattle.tsb_step.specs.tsb_ring.Rings as rings
use Rattle.tsb_step.specs.tsb_ring.Wants.{fits, pick, pick_of_ring_1, want, want_of}
use Rattle.tsb_step.specs.Signs.{is_lasting, shown, display, field, watched}
use Rattle.tsb_step.specs.State.{State}
use Rattle.tsb_step.specs.Step.{ticked}
use Rattle.tsb_step.specs.Tick.{new_detectors, new_service, service, target, forced, recycle, calls_given, phases_given, phase_read, ready, gapped, held, rings_given, moves, moved, done, after_moves, gives_up, new_rings, after_rings, overlaps_given, next}
use Rattle.tsb_laws.specs.Differing.{with_others}
use Rattle.tsb_laws.specs.ConvertedOffsets.{is_of_offsets}

-- what a tick opens beside its own words and those of heads
unfoldable opened : Unit {0}
unfolding actuations counted has_button has_output pedestrian_memory vehicle_memory is_callable has_conflict cars_waiting gap initial reduction_timer pedestrian_now is_over red_revert_passed beginning dwell_ends requesting preempts.new_service all_green begins committed entry target_side clears completes ends new_commitment new_crossing new_last new_side starting serving fits pick pick_of_ring_1 want want_of given_up ring_moves.moves rings_next.next overlaps.is_held overlaps.may_flash overlaps.run_on overlaps.settled overlaps.next
opened = tt

-- what heads and the monitor open
unfoldable opened_heads : Unit {0}
unfolding conflict conflict_of green_to_red has_green_arrow is_kept_green is_on_yellow is_on_last_yellow has_green_modifier has_yellow_modifier lasts some_lasts
opened_heads = tt

-- the plan with other offsets, or with these counted to something else
abbrev pub with_other_offsets : Plan → (Object → ℕ → ℕ) → Plan
with_other_offsets plan v = with_others is_of_offsets plan v

-- ## Maximums, whose object is found from the plan

module _ (plan : Plan) (v : Object → ℕ → ℕ) where
  maximum-same : (p : ℕ) → maximum (with_other_offsets plan v) p ≡ maximum plan p
  maximum-same p = go (plan.value UnitMax2 1 == 1)
    where
      go : (b : Bool) → 10 * (with_other_offsets plan v).value (if b then PhaseMaximum2 else PhaseMaximum1) p ≡ 10 * plan.value (if b then PhaseMaximum2 else PhaseMaximum1) p
      go true = refl
      go false = refl

  effective-same : (p : ℕ) (running : Option ℕ) → effective_maximum (with_other_offsets plan v) p running ≡ effective_maximum plan p running
  effective-same p None = maximum-same p
  effective-same p (Some running) =
      ap (λ (m : ℕ). max (min m (dynamic_maximum_limit plan p)) (min (max m (dynamic_maximum_limit plan p)) running)) (maximum-same p)

  in_use-same : maximum_in_use (with_other_offsets plan v) ≡ maximum_in_use plan
  unfolding maximum_in_use
  in_use-same = fun_ext (λ p. fun_ext (λ running. go p running))
    where
      go : (p : ℕ) (running : Option ℕ) → maximum_in_use (with_other_offsets plan v) p running ≡ maximum_in_use plan p running
      go p None = ap (λ (m : ℕ). if is_dynamic plan p then m else m) (maximum-same p)
      go p (Some running) =
          ap (λ (m : ℕ). if is_dynamic plan p
          then max (min m (dynamic_maximum_limit plan p)) (min (max m (dynamic_maximum_limit plan p)) running) else m)
          (maximum-same p)

  acting-same : (runs : Option ℕ) (p : ℕ) (running : Option ℕ) →
      acting_maximum (with_other_offsets plan v) runs p running ≡ acting_maximum plan runs p running
  acting-same None p running = ap (λ (f : ℕ → Option ℕ → ℕ). Some (f p running)) in_use-same
  acting-same (Some n) p running = refl

  done-same : (given : phase.Given) (p : ℕ) (w : phase.Phase) (ended : Option ℕ) →
      green_is_done (with_other_offsets plan v) given p w ended ≡ green_is_done plan given p w ended
  unfolding opened
  done-same given p w None =
      ap (λ (o : Option ℕ). initial_has_passed plan given p (phase.held_of w) && (if needs_forced given p then forced_latch plan given p (phase.held_of w)
      else (is_by_gap plan given p (is_gapped plan given p (phase.held_of w))
      || (has_reached_some (conflict_timer given p (phase.held_of w)) o || forced_latch plan given p (phase.held_of w)))))
      (acting-same given.runs p w.running_maximum)
  done-same given p w (Some n) = refl

  is_ready-same : (given : phase.Given) (p : ℕ) (w : phase.Phase) → is_ready (with_other_offsets plan v) given p w ≡ is_ready plan given p w
  unfolding opened is_ready
  is_ready-same given p w = ap (λ (b : Bool). is_green w.interval && (is_dont_walk (pedestrian_now plan given p w) && b)) (done-same given p w (ended_by given p))

  stepped-same : (p : ℕ) (e : Ending) (effective : ℕ) → stepped (with_other_offsets plan v) p e effective ≡ stepped plan p e effective
  stepped-same p MaxOut effective =
      ap (λ (m : ℕ). min (max m (dynamic_maximum_limit plan p)) (effective + dynamic_maximum_step plan p)) (maximum-same p)
  stepped-same p GapOut effective =
      ap (λ (m : ℕ). max (min m (dynamic_maximum_limit plan p) + dynamic_maximum_step plan p) effective - dynamic_maximum_step plan p)
      (maximum-same p)

  running-same : (p : ℕ) (e : Ending) (w : phase.Phase) → running_maximum_after (with_other_offsets plan v) p e w ≡ running_maximum_after plan p e w
  running-same p e w =
      ap (λ (n : ℕ). if is_dynamic plan p then (if is_same e w.last_ending then Some n else w.running_maximum) else None)
      (ap (λ (n : ℕ). stepped (with_other_offsets plan v) p e n) (effective-same p w.running_maximum)
      ∙ stepped-same p e (effective_maximum plan p w.running_maximum))

  next_phase-same : (given : phase.Given) (moved : phase.Moved) (p : ℕ) (was : phase.Phase) →
      phase_next.next (with_other_offsets plan v) given moved p was ≡ phase_next.next plan given moved p was
  unfolding opened
  next_phase-same given moved p was =
      let w : phase.Phase = phase.as_read was in
      ap (λ (o : Option ℕ). record (phase_next.next plan given moved p was) {
        running_maximum = if moved.ends p && counts_endings given then o else w.running_maximum;
      }) (running-same p (phase_next.ending_now plan given p w) w)

-- ## What is shown

-- the state with other offsets in its plan
abbrev pub swapped : State → (Object → ℕ → ℕ) → State
swapped s v = record s { plan = with_other_offsets s.plan v }

module _ (s : State) (v : Object → ℕ → ℕ) where
  pub field-same : field (swapped s v) ≡ field s
  unfolding field opened_heads
  field-same = refl

  pub display-same : display (swapped s v) ≡ display s
  unfolding display opened_heads
  display-same = refl

pub watched-same : (a b : State) (v : Object → ℕ → ℕ) → watched (swapped a v) (swapped b v) ≡ swapped (watched a b) v
unfolding watched field opened_heads
watched-same a b v = refl

-- ## What a tick finds

module _ (s : State) (row : Row) (v : Object → ℕ → ℕ) (forces : (p : ℕ) → forced (swapped s v) p ≡ forced s p) (walks : (p : ℕ) → recycle (swapped s v) p ≡ recycle s p) where
  phases_given-same : phases_given (swapped s v) row ≡ phases_given s row
  unfolding opened phases_given new_detectors new_service
  phases_given-same =
      ap₂ (λ (f g : ℕ → Bool). record (phases_given s row) { forced = clipped f; recycle = clipped g })
      (fun_ext (λ p. forces p)) (fun_ext (λ p. walks p))

  ready-same : (p : ℕ) → ready (swapped s v) row p ≡ ready s row p
  ready-same p =
      is_ready-same s.plan v (phases_given (swapped s v) row) p (phase_read s p)
      ∙ ap (λ (g : phase.Given). timing.is_ready s.plan g p (phase_read s p)) phases_given-same

  rings_given-same : rings_given (swapped s v) row ≡ rings_given s row
  unfolding opened rings_given new_detectors new_service held
  rings_given-same = ap (λ (f : ℕ → Bool). record (rings_given s row) { ready = clipped f }) (fun_ext (λ p. ready-same p))

  moves-same : moves (swapped s v) row ≡ moves s row
  unfolding opened moves
  moves-same = ap (λ (g : rings.Given). ring_moves.moves s.plan s.rings g) rings_given-same

  done-found : done (swapped s v) row ≡ done s row
  unfolding opened new_service
  done-found =
      ap₂ (λ (m : Moves) (g : phase.Given). record (done s row) {
        starts = ring_moves.is_started m;
        ends = ring_moves.is_ended m;
        gapped = clipped (λ p. timing.is_gapped_now s.plan g p (phase_read s p));
        walks = clipped (λ p. pedestrian.walks_again g p (phase_read s p));
      }) moves-same phases_given-same

  moved-same : moved (swapped s v) row ≡ moved s row
  moved-same =
      ap (λ (m : Moves). record (moved s row) {
        ends = ring_moves.is_ended m;
        clears = ring_moves.is_cleared m;
        starts = ring_moves.is_started m;
      }) moves-same

  -- ## The new state

  new_phases-same : (p : ℕ) → (after_moves (swapped s v) row).phases p ≡ (after_moves s row).phases p
  new_phases-same p =
      next_phase-same s.plan v (phases_given (swapped s v) row) (moved (swapped s v) row) p (s.phases p)
      ∙ ap₂ (λ (g : phase.Given) (m : phase.Moved). phase_next.next s.plan g m p (s.phases p)) phases_given-same moved-same

  after_moves-same : after_moves (swapped s v) row ≡ swapped (after_moves s row) v
  unfolding opened new_detectors new_service
  after_moves-same =
      ap₂ (λ (d : settled.Done) (g : rings.Given). record (swapped (after_moves s row) v) {
        memories = settled.next s.plan (calls_given s row) d s.memories;
        rings = rings_next.next s.plan s.rings g;
        phases = (after_moves (swapped s v) row).phases;
      }) done-found rings_given-same
      ∙ ap (λ (f : ℕ → phase.Phase). record (swapped (after_moves s row) v) { phases = f }) (fun_ext (λ p. new_phases-same p))

  gives_up-same : gives_up (swapped s v) row ≡ gives_up s row
  unfolding opened opened_heads gives_up new_service
  gives_up-same = ap (λ (a : State). is_anew s.plan (service s row) && not (is_lasting a)) after_moves-same

  new_rings-same : new_rings (swapped s v) row ≡ new_rings s row
  unfolding opened new_rings new_service
  new_rings-same =
      ap₂ (λ (b : Bool) (a : State). if b then given_up s.plan (target s row) a.rings else a.rings) gives_up-same after_moves-same

  after_rings-same : after_rings (swapped s v) row ≡ swapped (after_rings s row) v
  after_rings-same = ap₂ (λ (a : State) (r : rings.State). record a { rings = r }) after_moves-same new_rings-same

  next-same : next (swapped s v) row ≡ swapped (next s row) v
  unfolding opened opened_heads new_service
  next-same =
      ap (λ (a : State). record a {
        overlaps = overlaps.next s.plan (record (overlaps_given s row) { shown = shown a; timer = λ p. (a.phases p).timer }) s.overlaps;
      }) after_rings-same

  pub ticked-same : ticked row (swapped s v) ≡ swapped (ticked row s) v
  ticked-same = go (is_some s.trip)
    where
      go : (b : Bool) → (if b then record (swapped s v) { now = s.now + 1 } else (if b then next (swapped s v) row else watched (swapped s v) (next (swapped s v) row)))
          ≡ swapped (if b then record s { now = s.now + 1 } else (if b then next s row else watched s (next s row))) v
      go true = refl
      go false = ap (watched (swapped s v)) next-same ∙ watched-same s (next s row) v
