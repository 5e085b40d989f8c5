-- What a tick finds and makes does not see the correction limit while the mode is 0.
use Rattle.std.proofs.Common.{◌≡◌, ℕ, ◌+◌, ◌-◌, Bool, true, false, not, ◌&&◌, ◌%◌, if◌then◌else◌, Option, Some, None, option_map, is_some, refl, sym, ap, ap₂, ◌∙◌}
use Rattle.std.proofs.Math.Path.{fun_ext}
use Rattle.tsb_step.specs.tsb_types.Clip.{clipped, within}
use Rattle.tsb_step.specs.tsb_types.declared.flow.Moves.{Moves}
use Rattle.tsb_step.specs.tsb_types.declared.row.Row.{Row}
use Rattle.tsb_step.specs.tsb_plan.declared.object.Object.{Object}
use Rattle.tsb_step.specs.tsb_plan.declared.plan.patterns.CorrectionMode.TheVariants.{AtOnce}
use Rattle.tsb_step.specs.tsb_plan.declared.plan.patterns.OffsetReference.{OffsetReference}
use Rattle.tsb_step.specs.tsb_plan.declared.plan.patterns.OffsetReference.TheVariants.{SplitEnd, FirstGreen, LastGreen, FirstYellow, LastYellow, FirstRed}
use Rattle.tsb_step.specs.tsb_plan.Parts.{cycle, correction_mode, is_anew, offset_reference}
use Rattle.tsb_step.specs.tsb_plan.Running.{running}
use Rattle.tsb_step.specs.tsb_objects.Instants.{counted_to, end_within, offset_from}
use Rattle.tsb_step.specs.tsb_plan.Plan.{Plan}
use Rattle.tsb_step.specs.tsb_rules.PatternRules.{split_sum, side_sum, split_end}
use Rattle.tsb_step.specs.tsb_calls.Memories as calls
use Rattle.tsb_step.specs.tsb_calls.Settled as settled
use Rattle.tsb_step.specs.tsb_coord.Coordinated.{local, local_in, reference, forces_off, recycles, asks_force_off, asks_recycle, force_off, offset_in_effect}
use Rattle.tsb_step.specs.tsb_coord.Correction.{clocked}
use Rattle.tsb_step.specs.tsb_detect.Detector.{Detector}
use Rattle.tsb_step.specs.tsb_heads.Displays.{flashing, laid_over}
use Rattle.tsb_step.specs.tsb_heads.Heads.{Heads, Shown}
use Rattle.tsb_step.specs.tsb_phase.declared.ending.Ending.{Ending}
use Rattle.tsb_step.specs.tsb_phase.DynamicMaximum.{counts_endings, ending, running_maximum_after, last_ending_after}
use Rattle.tsb_step.specs.tsb_phase.Green.{is_by_gap}
use Rattle.tsb_step.specs.tsb_phase.Next as phase_next
use Rattle.tsb_step.specs.tsb_phase.Pedestrian as pedestrian
use Rattle.tsb_step.specs.tsb_phase.Phase as phase
use Rattle.tsb_step.specs.tsb_phase.Ready as timing
use Rattle.tsb_step.specs.tsb_overlap.Overlap as overlaps
use Rattle.tsb_step.specs.tsb_overlap.Overlap.{Overlap, is_held}
use Rattle.tsb_step.specs.tsb_preempt.Preempts as preempts
use Rattle.tsb_step.specs.tsb_preempt.Service.{Service}
use Rattle.tsb_step.specs.tsb_ring.GivenUp.{given_up}
use Rattle.tsb_step.specs.tsb_ring.Moves as ring_moves
use Rattle.tsb_step.specs.tsb_ring.Next as rings_next
use Rattle.tsb_step.specs.tsb_ring.Rings as rings
use Rattle.tsb_step.specs.Signs.{shown, is_lasting, display, field, watched}
use Rattle.tsb_step.specs.State.{State}
use Rattle.tsb_step.specs.Step.{ticked}
use Rattle.tsb_step.specs.Tick.{preempts_given, service, target, forced, recycle, calls_given, phases_given, phase_read, ready, gapped, held, lets_go, rings_given, moves, moved, done, after_moves, gives_up, new_rings, after_rings, overlaps_given, next}
use Rattle.tsb_step.proofs.tsb_coord.CorrectionLemmas.{in_step_at_once, forces_in_step}
use Rattle.tsb_laws.proofs.options.DifferLemmas.{only_limit, with_limit}
use Rattle.tsb_laws.proofs.options.CallLemmas.{counted-same, pedestrian_memory-same, vehicle_memory-same}
use Rattle.tsb_laws.proofs.options.FoundLemmas as found
use Rattle.tsb_laws.proofs.options.HeadLemmas.{green_to_red-same}
use Rattle.tsb_laws.proofs.options.LimitLemmas.{is_ready-same, is_gapped-same, running-same, ordered-same, some_lasts-same, conflict-same, is_held-same}
use Rattle.tsb_laws.proofs.options.LimitLemmas as limit
use Rattle.tsb_laws.proofs.options.PhaseLemmas.{gap-same, initial-same, reduction_timer-same, pedestrian_now-same}
use Rattle.tsb_laws.proofs.options.RingLemmas.{given_up-same}
use Rattle.tsb_laws.proofs.options.RingLemmas as ring

-- ## Of a plan

module _ (plan : Plan) (v : Object → ℕ → ℕ) where
  -- the offset in effect is the same, whatever it is counted to
  offset-same : (n : ℕ) → offset_in_effect (with_limit plan v) n ≡ offset_in_effect plan n
  unfolding split_end side_sum split_sum
  offset-same n = go (offset_reference plan)
    where
      go : (r : OffsetReference) → offset_from plan n (counted_to r (with_limit plan v) n) (end_within (with_limit plan v) n (reference (with_limit plan v) n))
          ≡ offset_from plan n (counted_to r plan n) (end_within plan n (reference plan n))
      go SplitEnd = refl
      go FirstGreen = refl
      go LastGreen = refl
      go FirstYellow = refl
      go LastYellow = refl
      go FirstRed = refl

  pub local-same : (t : ℕ) (selected : Option ℕ) → local (with_limit plan v) t selected ≡ local plan t selected
  local-same t selected = go (running plan selected)
    where
      go : (runs : Option ℕ) → local_in (with_limit plan v) t runs ≡ local_in plan t runs
      go None = refl
      go (Some n) = ap (λ (o : ℕ). Some ((t + cycle plan n - o) % cycle plan n)) (offset-same n)

  forces-same : (runs l : Option ℕ) (p : ℕ) → forces_off (with_limit plan v) runs l p ≡ forces_off plan runs l p
  unfolding force_off split_end side_sum split_sum
  forces-same runs l p = refl

  recycles-same : (runs l : Option ℕ) (p : ℕ) → recycles (with_limit plan v) runs l p ≡ recycles plan runs l p
  unfolding force_off split_end side_sum split_sum
  recycles-same runs l p = refl

  asks-same : (t : ℕ) (selected : Option ℕ) (p : ℕ) → asks_force_off (with_limit plan v) t selected p ≡ asks_force_off plan t selected p
  asks-same t selected p =
      forces-same (running plan selected) (local (with_limit plan v) t selected) p
      ∙ ap (λ (l : Option ℕ). forces_off plan (running plan selected) l p) (local-same t selected)

  asks_recycle-same : (t : ℕ) (selected : Option ℕ) (p : ℕ) → asks_recycle (with_limit plan v) t selected p ≡ asks_recycle plan t selected p
  asks_recycle-same t selected p =
      recycles-same (running plan selected) (local (with_limit plan v) t selected) p
      ∙ ap (λ (l : Option ℕ). recycles plan (running plan selected) l p) (local-same t selected)

  ending-same : (given : phase.Given) (p : ℕ) (w : phase.Phase) → phase_next.ending_now (with_limit plan v) given p w ≡ phase_next.ending_now plan given p w
  ending-same given p w = ap (λ (b : Bool). ending (is_by_gap plan given p b)) (is_gapped-same plan v given p (phase.held_of w))

  new_running-same : (given : phase.Given) (moved : phase.Moved) (p : ℕ) (w : phase.Phase) →
      phase_next.new_running_maximum (with_limit plan v) given moved p w ≡ phase_next.new_running_maximum plan given moved p w
  new_running-same given moved p w =
      ap (λ (o : Option ℕ). if moved.ends p && counts_endings given then o else w.running_maximum)
      (running-same plan v p (phase_next.ending_now (with_limit plan v) given p w) w
      ∙ ap (λ (e : Ending). running_maximum_after plan p e w) (ending-same given p w))

  new_last-same : (given : phase.Given) (moved : phase.Moved) (p : ℕ) (w : phase.Phase) →
      phase_next.new_last_ending (with_limit plan v) given moved p w ≡ phase_next.new_last_ending plan given moved p w
  new_last-same given moved p w =
      ap (λ (e : Ending). if moved.ends p && counts_endings given then last_ending_after plan p e else w.last_ending) (ending-same given p w)

  -- with what a dynamic maximum keeps as it is found without the other limit
  next_by-same : (given : phase.Given) (moved : phase.Moved) (p : ℕ) (w : phase.Phase) →
      record (phase_next.next_from_read (with_limit plan v) given moved p w) {
        running_maximum = phase_next.new_running_maximum plan given moved p w;
        last_ending = phase_next.new_last_ending plan given moved p w;
      } ≡ phase_next.next_from_read plan given moved p w
  next_by-same given moved p w =
      rw (
        gap-same plan (only_limit plan v),
        initial-same plan (only_limit plan v),
        reduction_timer-same plan (only_limit plan v),
        pedestrian_now-same plan (only_limit plan v),
      ) refl

  next_phase-same : (given : phase.Given) (moved : phase.Moved) (p : ℕ) (was : phase.Phase) →
      phase_next.next (with_limit plan v) given moved p was ≡ phase_next.next plan given moved p was
  next_phase-same given moved p was =
      let w : phase.Phase = phase.as_read was in
      ap₂ (λ (running : Option ℕ) (last : Option Ending). record (phase_next.next_from_read (with_limit plan v) given moved p w) {
        running_maximum = running;
        last_ending = last;
      }) (new_running-same given moved p w) (new_last-same given moved p w)
      ∙ next_by-same given moved p w

  memories-same : (given : calls.Given) (done : settled.Done) (w : calls.Memories) →
      settled.next (with_limit plan v) given done w ≡ settled.next plan given done w
  memories-same given done w =
      rw (vehicle_memory-same plan (only_limit plan v), pedestrian_memory-same plan (only_limit plan v), counted-same plan (only_limit plan v)) refl

-- ## What is shown

-- the state with other correction limits in its plan
abbrev pub swapped : State → (Object → ℕ → ℕ) → State
swapped s v = record s { plan = with_limit s.plan v }

module _ (s : State) (v : Object → ℕ → ℕ) where
  pub field-same : field (swapped s v) ≡ field s
  unfolding field
  field-same = ap (λ (h : Heads). laid_over s.lamp h) (ordered-same s.plan v (shown s))

  pub display-same : display (swapped s v) ≡ display s
  unfolding display
  display-same = ap (λ (h : Heads). if is_some s.trip then flashing h else h) (ordered-same s.plan v (shown s))

pub watched-same : (a b : State) (v : Object → ℕ → ℕ) → watched (swapped a v) (swapped b v) ≡ swapped (watched a b) v
unfolding watched
watched-same a b v = rw (field-same a v, field-same b v, conflict-same b.plan v, green_to_red-same b.plan (only_limit b.plan v)) refl

-- ## What a tick finds

module _ (s : State) (row : Row) (v : Object → ℕ → ℕ) (mode : correction_mode s.plan ≡ AtOnce) (other : correction_mode (with_limit s.plan v) ≡ AtOnce) where
  forced-same : (p : ℕ) → forced (swapped s v) p ≡ forced s p
  forced-same p =
      forces_in_step (with_limit s.plan v) s.pattern s.correction (s.now + 1) p (in_step_at_once (with_limit s.plan v) s.pattern s.correction (s.now + 1 - 1) other)
      ∙ asks-same s.plan v (clocked s.plan s.pattern s.correction (s.now + 1)) s.pattern p
      ∙ sym (forces_in_step s.plan s.pattern s.correction (s.now + 1) p (in_step_at_once s.plan s.pattern s.correction (s.now + 1 - 1) mode))

  recycle-same : (p : ℕ) → recycle (swapped s v) p ≡ recycle s p
  recycle-same p =
      ap₂ (λ (a b : Bool). a && b)
      (in_step_at_once (with_limit s.plan v) s.pattern s.correction (s.now + 1 - 1) other
      ∙ sym (in_step_at_once s.plan s.pattern s.correction (s.now + 1 - 1) mode))
      (asks_recycle-same s.plan v (clocked s.plan s.pattern s.correction (s.now + 1)) s.pattern p)

  phases_given-same : phases_given (swapped s v) row ≡ phases_given s row
  unfolding phases_given
  phases_given-same =
      ap₂ (λ (f g : ℕ → Bool). record (phases_given (swapped s v) row) { output = clipped f; conflict = clipped g })
      (fun_ext (λ p. found.output-same s row (only_limit s.plan v) p)) (fun_ext (λ p. found.conflict-same s row (only_limit s.plan v) p))
      ∙ ap₂ (λ (f g : ℕ → Bool). record (phases_given (swapped s v) row) {
        output = (phases_given s row).output;
        conflict = (phases_given s row).conflict;
        callable = clipped f;
        pedestrian_call = clipped g;
      }) (fun_ext (λ p. found.callable-same s row (only_limit s.plan v) p)) (fun_ext (λ p. found.walk_call-same s row (only_limit s.plan v) p))
      ∙ ap₂ (λ (f : ℕ → ℕ) (o : Option ℕ). record (phases_given s row) {
        count = within 0 f;
        service = o;
        must_end = (phases_given (swapped s v) row).must_end;
        forced = (phases_given (swapped s v) row).forced;
        recycle = (phases_given (swapped s v) row).recycle;
      }) (fun_ext (λ p. found.count-same s row (only_limit s.plan v) p)) (found.service-same s row (only_limit s.plan v))
      ∙ ap₂ (λ (f g : ℕ → Bool). record (phases_given s row) {
        must_end = clipped f;
        forced = clipped g;
        recycle = (phases_given (swapped s v) row).recycle;
      }) (fun_ext (λ p. found.must_end-same s row (only_limit s.plan v) p)) (fun_ext (λ p. forced-same p))
      ∙ ap (λ (f : ℕ → Bool). record (phases_given s row) { recycle = clipped f }) (fun_ext (λ p. recycle-same p))

  ready-same : (p : ℕ) → ready (swapped s v) row p ≡ ready s row p
  ready-same p =
      ap (λ (f : phase.Given → ℕ → phase.Phase → Bool). f (phases_given (swapped s v) row) p (phase_read s p)) (is_ready-same s.plan v)
      ∙ ap (λ (g : phase.Given). timing.is_ready s.plan g p (phase_read s p)) phases_given-same

  held-same : (p : ℕ) → held (swapped s v) row p ≡ held s row p
  unfolding held
  held-same p =
      ap (λ (f : Bool → (ℕ → Overlap) → ℕ → Bool). f (is_some (service (swapped s v) row)) s.overlaps p) (is_held-same s.plan v)
      ∙ ap (λ (o : Option ℕ). is_held s.plan (is_some o) s.overlaps p) (found.service-same s row (only_limit s.plan v))

  lets_go-same : (p : ℕ) → lets_go (swapped s v) row p ≡ lets_go s row p
  lets_go-same p = ap₂ (λ (a b : Bool). a && not b) (found.over-same s row (only_limit s.plan v) p) (held-same p)

  rings_given-same : rings_given (swapped s v) row ≡ rings_given s row
  unfolding rings_given
  rings_given-same =
      ap₂ (λ (f g : ℕ → Bool). record (rings_given (swapped s v) row) { callable = clipped f; ready = clipped g })
      (fun_ext (λ p. found.callable-same s row (only_limit s.plan v) p)) (fun_ext (λ p. ready-same p))
      ∙ ap₂ (λ (f g : ℕ → Bool). record (rings_given s row) {
        over = clipped f;
        reverted = clipped g;
        target = target (swapped s v) row;
      }) (fun_ext (λ p. lets_go-same p)) (fun_ext (λ p. found.reverted-same s row (only_limit s.plan v) p))
      ∙ ap (λ (t : Option (ℕ → Bool)). record (rings_given s row) { target = t }) (found.target-same s row (only_limit s.plan v))

  moves-same : moves (swapped s v) row ≡ moves s row
  unfolding moves
  moves-same =
      ap (λ (f : rings.State → rings.Given → Moves). f s.rings (rings_given (swapped s v) row)) (ring.moves-same s.plan (only_limit s.plan v))
      ∙ ap (λ (g : rings.Given). ring_moves.moves s.plan s.rings g) rings_given-same

  gapped-same : (p : ℕ) → gapped (swapped s v) row p ≡ gapped s row p
  gapped-same p =
      found.is_gapped-same s.plan (only_limit s.plan v) (phases_given (swapped s v) row) p (phase_read s p)
      ∙ ap (λ (g : phase.Given). timing.is_gapped_now s.plan g p (phase_read s p)) phases_given-same

  done-same : done (swapped s v) row ≡ done s row
  done-same =
      ap (λ (m : Moves). record (done (swapped s v) row) { starts = ring_moves.is_started m; ends = ring_moves.is_ended m }) moves-same
      ∙ ap₂ (λ (g : ℕ → Bool) (o : Option Service). record (done (swapped s v) row) {
        starts = (done s row).starts;
        ends = (done s row).ends;
        gapped = clipped g;
        service = option_map (λ (x : Service). x.preempt) o;
      }) (fun_ext (λ p. gapped-same p)) (found.new_service-same s row (only_limit s.plan v))
      ∙ ap (λ (g : phase.Given). record (done s row) { walks = clipped (λ p. pedestrian.walks_again g p (phase_read s p)) }) phases_given-same

  moved-same : moved (swapped s v) row ≡ moved s row
  moved-same =
      ap (λ (m : Moves). record (moved s row) {
        ends = ring_moves.is_ended m;
        clears = ring_moves.is_cleared m;
        starts = ring_moves.is_started m;
      }) moves-same

  new_memories-same : (after_moves (swapped s v) row).memories ≡ (after_moves s row).memories
  new_memories-same =
      memories-same s.plan v (calls_given (swapped s v) row) (done (swapped s v) row) s.memories
      ∙ ap₂ (λ (g : calls.Given) (d : settled.Done). settled.next s.plan g d s.memories) (found.calls_given-same s row (only_limit s.plan v)) done-same

  new_phases-same : (p : ℕ) → (after_moves (swapped s v) row).phases p ≡ (after_moves s row).phases p
  new_phases-same p =
      next_phase-same s.plan v (phases_given (swapped s v) row) (moved (swapped s v) row) p (s.phases p)
      ∙ ap₂ (λ (g : phase.Given) (m : phase.Moved). phase_next.next s.plan g m p (s.phases p)) phases_given-same moved-same

  moved_rings-same : (after_moves (swapped s v) row).rings ≡ (after_moves s row).rings
  moved_rings-same =
      ap (λ (f : rings.State → rings.Given → rings.State). f s.rings (rings_given (swapped s v) row)) (ring.next-same s.plan (only_limit s.plan v))
      ∙ ap (λ (g : rings.Given). rings_next.next s.plan s.rings g) rings_given-same

  new_preempts-same : (after_moves (swapped s v) row).preempts ≡ (after_moves s row).preempts
  new_preempts-same = found.next_preempts-same s.plan (only_limit s.plan v) (preempts_given s row) s.preempts

  after_moves-same : after_moves (swapped s v) row ≡ swapped (after_moves s row) v
  after_moves-same =
      ap₂ (λ (d : ℕ → Detector) (m : calls.Memories). record (after_moves (swapped s v) row) { detectors = d; memories = m })
      (found.new_detectors-same s row (only_limit s.plan v)) new_memories-same
      ∙ ap₂ (λ (f : ℕ → phase.Phase) (r : rings.State). record (after_moves (swapped s v) row) {
        detectors = (after_moves s row).detectors;
        memories = (after_moves s row).memories;
        phases = f;
        rings = r;
      }) (fun_ext (λ p. new_phases-same p)) moved_rings-same
      ∙ ap (λ (e : preempts.Preempts). record (swapped (after_moves s row) v) { preempts = e }) new_preempts-same

  -- ## What the rings give up

  lasting-same : is_lasting (after_moves (swapped s v) row) ≡ is_lasting (after_moves s row)
  lasting-same =
      ap (λ (a : State). is_lasting a) after_moves-same
      ∙ ap (λ (f : Shown → Bool). f (shown (after_moves s row))) (some_lasts-same s.plan v)

  gives_up-same : gives_up (swapped s v) row ≡ gives_up s row
  unfolding gives_up
  gives_up-same = ap₂ (λ (o : Option ℕ) (b : Bool). is_anew s.plan o && not b) (found.service-same s row (only_limit s.plan v)) lasting-same

  new_rings-same : new_rings (swapped s v) row ≡ new_rings s row
  unfolding new_rings
  new_rings-same =
      ap (λ (f : Option (ℕ → Bool) → rings.State → rings.State). if gives_up (swapped s v) row
      then f (target (swapped s v) row) (after_moves (swapped s v) row).rings else (after_moves (swapped s v) row).rings) (given_up-same s.plan (only_limit s.plan v))
      ∙ ap (λ (t : Option (ℕ → Bool)). if gives_up (swapped s v) row
      then given_up s.plan t (after_moves (swapped s v) row).rings else (after_moves (swapped s v) row).rings) (found.target-same s row (only_limit s.plan v))
      ∙ ap₂ (λ (b : Bool) (r : rings.State). if b then given_up s.plan (target s row) r else r) gives_up-same (ap (λ (a : State). a.rings) after_moves-same)

  after_rings-same : after_rings (swapped s v) row ≡ swapped (after_rings s row) v
  after_rings-same = ap₂ (λ (a : State) (r : rings.State). record a { rings = r }) after_moves-same new_rings-same

  -- ## What overlaps see

  seen-same : overlaps_given (swapped s v) row ≡ overlaps_given s row
  seen-same =
      ap₂ (λ (a : State) (o : Option ℕ). record (overlaps_given s row) {
        shown = shown a;
        timer = λ p. (a.phases p).timer;
        preempted = is_some o;
      }) after_rings-same (found.service-same s row (only_limit s.plan v))

  overlaps-same : overlaps.next (with_limit s.plan v) (overlaps_given (swapped s v) row) s.overlaps ≡ overlaps.next s.plan (overlaps_given s row) s.overlaps
  overlaps-same =
      ap (λ (f : overlaps.Given → (ℕ → Overlap) → ℕ → Overlap). f (overlaps_given (swapped s v) row) s.overlaps) (limit.next-same s.plan v)
      ∙ ap (λ (g : overlaps.Given). overlaps.next s.plan g s.overlaps) seen-same

  next-same : next (swapped s v) row ≡ swapped (next s row) v
  next-same = ap₂ (λ (a : State) (f : ℕ → Overlap). record a { overlaps = f }) after_rings-same overlaps-same

  pub ticked-same : ticked row (swapped s v) ≡ swapped (ticked row s) v
  ticked-same = go (is_some s.trip)
    where
      go : (b : Bool) → (if b then record (swapped s v) { now = s.now + 1 } else (if b then next (swapped s v) row else watched (swapped s v) (next (swapped s v) row)))
          ≡ swapped (if b then record s { now = s.now + 1 } else (if b then next s row else watched s (next s row))) v
      go true = refl
      go false = ap (watched (swapped s v)) next-same ∙ watched-same s (next s row) v
