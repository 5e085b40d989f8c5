-- What the controller without options makes of a plan does not see the options.
use Rattle.std.proofs.Common.{◌≡◌, ℕ, ◌+◌, Bool, true, false, if◌then◌else◌, ◌&&◌, Option, Some, None, is_some, is_none, option_map, refl, ap, ap₂, ◌∙◌}
use Rattle.std.proofs.Math.Path.{fun_ext}
use Rattle.tsb_step.specs.tsb_cells.Timer.{has_reached}
use Rattle.tsb_step.specs.tsb_types.Clip.{clipped, within}
use Rattle.tsb_step.specs.tsb_types.declared.flow.Moves.{Moves}
use Rattle.tsb_step.specs.tsb_types.declared.lamp.Aspect.{Aspect}
use Rattle.tsb_step.specs.tsb_types.declared.lamp.Lamp.{Lamp}
use Rattle.tsb_step.specs.tsb_types.declared.row.Row.{Row}
use Rattle.tsb_step.specs.tsb_plan.declared.object.Object.{Object}
use Rattle.tsb_step.specs.tsb_plan.Parts.{split_of, sequence_of}
use Rattle.tsb_step.specs.tsb_plan.Plan.{Plan}
use Rattle.tsb_step.specs.tsb_rules.declared.rules.Rule.TheVariants.{K14, K15, K16, K17, K18, K19, K20}
use Rattle.tsb_step.specs.tsb_rules.PatternRules.{some_and, each_pattern, patterns_are_whole, splits_hold_phases}
use Rattle.tsb_step.specs.tsb_rules.Rules.{unless, included_phases_are_enabled, preempts_are_concurrent, preempts_dwell}
use Rattle.tsb_step.specs.tsb_types.Intervals.{is_green, is_dont_walk}
use Rattle.tsb_step.specs.tsb_types.declared.interval.PedestrianInterval.{PedestrianInterval}
use Rattle.tsb_step.specs.tsb_plan.Running.{running}
use Rattle.tsb_step.specs.tsb_calls.Memories as calls
use Rattle.tsb_step.specs.tsb_calls.Settled as settled
use Rattle.tsb_step.specs.tsb_coord.Coordinated.{agree}
use Rattle.tsb_step.specs.tsb_detect.Detector.{Detector}
use Rattle.tsb_step.specs.tsb_heads.Displays.{flashing, laid_over}
use Rattle.tsb_step.specs.tsb_heads.Heads.{Heads, Shown}
use Rattle.tsb_step.specs.tsb_phase.Green.{conflict_timer}
use Rattle.tsb_step.specs.tsb_phase.Pedestrian.{ended_by}
use Rattle.tsb_step.specs.tsb_phase.Phase as phase
use Rattle.tsb_step.specs.tsb_phase.Ready as timing
use Rattle.tsb_step.specs.tsb_preempt.Preempts as preempts
use Rattle.tsb_step.specs.tsb_preempt.Service.{Service}
use Rattle.tsb_step.specs.tsb_ring.Moves as ring_moves
use Rattle.tsb_step.specs.tsb_ring.Next as rings_next
use Rattle.tsb_step.specs.tsb_ring.Rings as rings
use Rattle.tsb_step.specs.Signs.{shown}
use Rattle.tsb_step.specs.State.{State}
use Rattle.tsb_step.specs.Tick as tick
use Rattle.tsb_laws.specs.PlainParts as parts
use Rattle.tsb_laws.specs.PlainStep as plain
use Rattle.tsb_laws.proofs.options.DifferLemmas.{with_options}
use Rattle.tsb_laws.proofs.options.CallLemmas.{counted-same, pedestrian_memory-same, vehicle_memory-same}
use Rattle.tsb_laws.proofs.options.FoundLemmas.{swapped, is_gapped-same, next_preempts-same, new_detectors-same, new_service-same, service-same, target-same, must_end-same, calls_given-same, output-same, callable-same, conflict-same, walk_call-same, count-same, over-same, reverted-same}
use Rattle.tsb_laws.proofs.options.HeadLemmas.{is_on_yellow-same, green_to_red-same}
use Rattle.tsb_laws.proofs.options.PhaseLemmas.{gap-same, initial-same, reduction_timer-same, maximum-same}
use Rattle.tsb_laws.proofs.options.RingLemmas as ring
use Rattle.tsb_laws.proofs.options.RuleLemmas.{fills-same, agree-same, force_off-same, broken_by_phases-same, broken_by_rings-same, broken_by_schedule-same}

-- ## Parts

module _ (plan : Plan) (v : Object → ℕ → ℕ) where
  broken_by_parts-same : parts.broken_by_parts (with_options plan v) ≡ parts.broken_by_parts plan
  unfolding parts.broken_by_parts
  broken_by_parts-same =
      ap₂ (λ (f g : ℕ → ℕ → Bool).
      unless (included_phases_are_enabled plan) K14
      (unless (preempts_are_concurrent plan) K15
      (unless (preempts_dwell plan) K16
      (unless (patterns_are_whole plan) K17
      (unless (splits_hold_phases plan) K18
      (unless (each_pattern plan (λ n. some_and (f n) (split_of plan n))) K19
      (unless (each_pattern plan (λ n. some_and (λ s. some_and (g s) (split_of plan n)) (sequence_of plan n))) K20
      None)))))))
      (fun_ext (λ n. fun_ext (λ t. fills-same plan v n t))) (fun_ext (λ s. fun_ext (λ t. agree-same plan v false s t)))

  pub first_broken-same : parts.first_broken (with_options plan v) ≡ parts.first_broken plan
  unfolding parts.first_broken
  first_broken-same = rw (broken_by_parts-same, broken_by_phases-same plan v, broken_by_rings-same plan v, broken_by_schedule-same plan v) refl

  has_maxed_out-same : parts.has_maxed_out (with_options plan v) ≡ parts.has_maxed_out plan
  unfolding parts.has_maxed_out
  has_maxed_out-same = fun_ext (λ given. fun_ext (λ p. fun_ext (λ held.
      ap (λ (m : ℕ). is_none given.runs && has_reached (conflict_timer given p held) m) (maximum-same plan v p))))

  pedestrian_now-same : parts.pedestrian_now (with_options plan v) ≡ parts.pedestrian_now plan
  unfolding parts.pedestrian_now
  pedestrian_now-same = refl

  green_done-same : (given : phase.Given) (p : ℕ) (w : phase.Phase) (ended : Option ℕ) →
      parts.green_is_done (with_options plan v) given p w ended ≡ parts.green_is_done plan given p w ended
  green_done-same given p w None = rw (gap-same plan v, initial-same plan v, reduction_timer-same plan v, has_maxed_out-same) refl
  green_done-same given p w (Some n) = rw (initial-same plan v) refl

  is_ready-same : parts.is_ready (with_options plan v) ≡ parts.is_ready plan
  unfolding parts.is_ready
  is_ready-same = fun_ext (λ given. fun_ext (λ p. fun_ext (λ w.
      ap₂ (λ (f : phase.Given → ℕ → phase.Phase → PedestrianInterval) (b : Bool). is_green w.interval && (is_dont_walk (f given p w) && b))
      pedestrian_now-same (green_done-same given p w (ended_by given p)))))

  next_phase-same : (given : phase.Given) (moved : phase.Moved) (p : ℕ) (was : phase.Phase) →
      parts.next (with_options plan v) given moved p was ≡ parts.next plan given moved p was
  next_phase-same given moved p was =
      rw (gap-same plan v, initial-same plan v, reduction_timer-same plan v, pedestrian_now-same) refl

  memories-same : (given : calls.Given) (done : settled.Done) (w : calls.Memories) →
      parts.memories_after (with_options plan v) given done w ≡ parts.memories_after plan given done w
  memories-same given done w = rw (vehicle_memory-same plan v, pedestrian_memory-same plan v, counted-same plan v) refl

  is_kept_green-same : parts.is_kept_green (with_options plan v) ≡ parts.is_kept_green plan
  unfolding parts.is_kept_green
  is_kept_green-same = refl

  overlap_head-same : (s : Shown) (o : ℕ) → parts.overlap_head (with_options plan v) s o ≡ parts.overlap_head plan s o
  overlap_head-same s o = rw (is_kept_green-same, is_on_yellow-same plan v) refl

  ordered-same : (s : Shown) → parts.ordered (with_options plan v) s ≡ parts.ordered plan s
  ordered-same s = ap (λ (f : ℕ → Aspect). record (parts.ordered plan s) { overlap = f }) (fun_ext (λ o. overlap_head-same s o))

  heads_conflict-same : parts.conflict (with_options plan v) ≡ parts.conflict plan
  unfolding parts.conflict parts.conflict_of
  heads_conflict-same = refl

-- ## What is shown

module _ (s : State) (v : Object → ℕ → ℕ) where
  pub field-same : plain.field (swapped s v) ≡ plain.field s
  unfolding plain.field
  field-same = ap (λ (h : Heads). laid_over s.lamp h) (ordered-same s.plan v (shown s))

  pub display-same : plain.display (swapped s v) ≡ plain.display s
  unfolding plain.display
  display-same = ap (λ (h : Heads). if is_some s.trip then flashing h else h) (ordered-same s.plan v (shown s))

pub watched-same : (a b : State) (v : Object → ℕ → ℕ) → plain.watched (swapped a v) (swapped b v) ≡ swapped (plain.watched a b) v
unfolding plain.watched
watched-same a b v = rw (field-same a v, field-same b v, heads_conflict-same b.plan v, green_to_red-same b.plan v) refl

-- ## What a tick finds

module _ (s : State) (row : Row) (v : Object → ℕ → ℕ) where
  forced-same : (p : ℕ) → plain.forced (swapped s v) p ≡ plain.forced s p
  forced-same p =
      ap (λ (f : Option ℕ → ℕ → Option ℕ). agree (plain.local_at s (s.now + 1)) (f (running s.plan s.pattern) p)) (force_off-same s.plan v)

  phases_given-same : plain.phases_given (swapped s v) row ≡ plain.phases_given s row
  unfolding plain.phases_given
  phases_given-same =
      ap₂ (λ (f g : ℕ → Bool). record (plain.phases_given (swapped s v) row) { output = clipped f; conflict = clipped g })
      (fun_ext (λ p. output-same s row v p)) (fun_ext (λ p. conflict-same s row v p))
      ∙ ap₂ (λ (f g : ℕ → Bool). record (plain.phases_given (swapped s v) row) {
        output = (plain.phases_given s row).output;
        conflict = (plain.phases_given s row).conflict;
        callable = clipped f;
        pedestrian_call = clipped g;
      }) (fun_ext (λ p. callable-same s row v p)) (fun_ext (λ p. walk_call-same s row v p))
      ∙ ap₂ (λ (f : ℕ → ℕ) (o : Option ℕ). record (plain.phases_given s row) {
        count = within 0 f;
        service = o;
        must_end = clipped (tick.must_end (swapped s v) row);
        forced = clipped (plain.forced (swapped s v));
      }) (fun_ext (λ p. count-same s row v p)) (service-same s row v)
      ∙ ap₂ (λ (f g : ℕ → Bool). record (plain.phases_given s row) { must_end = clipped f; forced = clipped g })
      (fun_ext (λ p. must_end-same s row v p)) (fun_ext (λ p. forced-same p))

  ready-same : (p : ℕ) → plain.ready (swapped s v) row p ≡ plain.ready s row p
  ready-same p =
      ap (λ (f : phase.Given → ℕ → phase.Phase → Bool). f (plain.phases_given (swapped s v) row) p (tick.phase_read s p)) (is_ready-same s.plan v)
      ∙ ap (λ (g : phase.Given). parts.is_ready s.plan g p (tick.phase_read s p)) phases_given-same

  rings_given-same : plain.rings_given (swapped s v) row ≡ plain.rings_given s row
  unfolding plain.rings_given
  rings_given-same =
      ap₂ (λ (f g : ℕ → Bool). record (plain.rings_given (swapped s v) row) { callable = clipped f; ready = clipped g })
      (fun_ext (λ p. callable-same s row v p)) (fun_ext (λ p. ready-same p))
      ∙ ap₂ (λ (f g : ℕ → Bool). record (plain.rings_given s row) {
        over = clipped f;
        reverted = clipped g;
        target = tick.target (swapped s v) row;
      }) (fun_ext (λ p. over-same s row v p)) (fun_ext (λ p. reverted-same s row v p))
      ∙ ap (λ (t : Option (ℕ → Bool)). record (plain.rings_given s row) { target = t }) (target-same s row v)

  moves-same : plain.moves (swapped s v) row ≡ plain.moves s row
  unfolding plain.moves
  moves-same =
      ap (λ (f : rings.State → rings.Given → Moves). f s.rings (plain.rings_given (swapped s v) row)) (ring.moves-same s.plan v)
      ∙ ap (λ (g : rings.Given). ring_moves.moves s.plan s.rings g) rings_given-same

  gapped-same : (p : ℕ) → plain.gapped (swapped s v) row p ≡ plain.gapped s row p
  gapped-same p =
      is_gapped-same s.plan v (plain.phases_given (swapped s v) row) p (tick.phase_read s p)
      ∙ ap (λ (g : phase.Given). timing.is_gapped_now s.plan g p (tick.phase_read s p)) phases_given-same

  done-same : plain.done (swapped s v) row ≡ plain.done s row
  done-same =
      ap (λ (m : Moves). record (plain.done (swapped s v) row) { starts = ring_moves.is_started m; ends = ring_moves.is_ended m }) moves-same
      ∙ ap₂ (λ (g : ℕ → Bool) (o : Option Service). record (plain.done s row) {
        gapped = clipped g;
        service = option_map (λ (x : Service). x.preempt) o;
      }) (fun_ext (λ p. gapped-same p)) (new_service-same s row v)

  moved-same : plain.moved (swapped s v) row ≡ plain.moved s row
  moved-same =
      ap (λ (m : Moves). record (plain.moved s row) {
        ends = ring_moves.is_ended m;
        clears = ring_moves.is_cleared m;
        starts = ring_moves.is_started m;
      }) moves-same

  -- ## The new state

  new_memories-same : (plain.next (swapped s v) row).memories ≡ (plain.next s row).memories
  new_memories-same =
      memories-same s.plan v (tick.calls_given (swapped s v) row) (plain.done (swapped s v) row) s.memories
      ∙ ap₂ (λ (g : calls.Given) (d : settled.Done). parts.memories_after s.plan g d s.memories) (calls_given-same s row v) done-same

  new_phases-same : (p : ℕ) → (plain.next (swapped s v) row).phases p ≡ (plain.next s row).phases p
  new_phases-same p =
      next_phase-same s.plan v (plain.phases_given (swapped s v) row) (plain.moved (swapped s v) row) p (s.phases p)
      ∙ ap₂ (λ (g : phase.Given) (m : phase.Moved). parts.next s.plan g m p (s.phases p)) phases_given-same moved-same

  new_rings-same : (plain.next (swapped s v) row).rings ≡ (plain.next s row).rings
  new_rings-same =
      ap (λ (f : rings.State → rings.Given → rings.State). f s.rings (plain.rings_given (swapped s v) row)) (ring.next-same s.plan v)
      ∙ ap (λ (g : rings.Given). rings_next.next s.plan s.rings g) rings_given-same

  new_preempts-same : (plain.next (swapped s v) row).preempts ≡ (plain.next s row).preempts
  new_preempts-same = next_preempts-same s.plan v (tick.preempts_given s row) s.preempts

  next-same : plain.next (swapped s v) row ≡ swapped (plain.next s row) v
  next-same =
      ap₂ (λ (d : ℕ → Detector) (m : calls.Memories). record (plain.next (swapped s v) row) { detectors = d; memories = m })
      (new_detectors-same s row v) new_memories-same
      ∙ ap₂ (λ (f : ℕ → phase.Phase) (r : rings.State). record (plain.next (swapped s v) row) {
        detectors = (plain.next s row).detectors;
        memories = (plain.next s row).memories;
        phases = f;
        rings = r;
      }) (fun_ext (λ p. new_phases-same p)) new_rings-same
      ∙ ap (λ (e : preempts.Preempts). record (swapped (plain.next s row) v) { preempts = e }) new_preempts-same

  pub ticked-same : plain.ticked row (swapped s v) ≡ swapped (plain.ticked row s) v
  ticked-same = go (is_some s.trip)
    where
      go : (b : Bool) → (if b then record (swapped s v) { now = s.now + 1 } else plain.watched (swapped s v) (plain.next (swapped s v) row))
          ≡ swapped (if b then record s { now = s.now + 1 } else plain.watched s (plain.next s row)) v
      go true = refl
      go false = ap (λ (t : State). plain.watched (swapped s v) t) next-same ∙ watched-same s (plain.next s row) v

pub lamp-same : (s : State) (v : Object → ℕ → ℕ) (lamp : Option Lamp) → plain.with_lamp lamp (swapped s v) ≡ swapped (plain.with_lamp lamp s) v
lamp-same s v lamp = go (is_some s.trip)
  where
    go : (b : Bool) → (if b then record (swapped s v) { lamp = lamp } else plain.watched (swapped s v) (record (swapped s v) { lamp = lamp }))
        ≡ swapped (if b then record s { lamp = lamp } else plain.watched s (record s { lamp = lamp })) v
    go true = refl
    go false = watched-same s (record s { lamp = lamp }) v
