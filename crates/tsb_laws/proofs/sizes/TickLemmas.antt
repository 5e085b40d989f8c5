-- What a tick finds and makes, where the detectors, overlaps and preempts that a plan has not do nothing.
use Rattle.std.proofs.Common.{◌≡◌, ℕ, ◌+◌, Bool, true, false, not, ◌&&◌, if◌then◌else◌, Option, option_map, is_some, refl, ap, ap₂, ◌∙◌}
use Rattle.std.proofs.Math.Path.{fun_ext}
use Rattle.tsb_step.specs.tsb_types.Clip.{clipped, within}
use Rattle.tsb_step.specs.tsb_types.declared.flow.Moves.{Moves}
use Rattle.tsb_step.specs.tsb_types.declared.row.Row.{Row}
use Rattle.tsb_step.specs.tsb_plan.Parts.{is_anew}
use Rattle.tsb_step.specs.tsb_plan.Plan.{Plan}
use Rattle.tsb_step.specs.tsb_calls.Memories as calls
use Rattle.tsb_step.specs.tsb_calls.Settled as settled
use Rattle.tsb_step.specs.tsb_detect.Detector.{Detector}
use Rattle.tsb_step.specs.tsb_heads.Displays.{flashing, laid_over}
use Rattle.tsb_step.specs.tsb_heads.Heads.{Heads, Shown}
use Rattle.tsb_step.specs.tsb_overlap.Overlap as overlaps
use Rattle.tsb_step.specs.tsb_overlap.Overlap.{Overlap, is_held}
use Rattle.tsb_step.specs.tsb_phase.Next as phase_next
use Rattle.tsb_step.specs.tsb_phase.Pedestrian as pedestrian
use Rattle.tsb_step.specs.tsb_phase.Phase as phase
use Rattle.tsb_step.specs.tsb_phase.Ready as timing
use Rattle.tsb_step.specs.tsb_preempt.Preempts as preempts
use Rattle.tsb_step.specs.tsb_preempt.Service.{Service}
use Rattle.tsb_step.specs.tsb_ring.GivenUp.{given_up}
use Rattle.tsb_step.specs.tsb_ring.Moves as ring_moves
use Rattle.tsb_step.specs.tsb_ring.Next as rings_next
use Rattle.tsb_step.specs.tsb_ring.Rings as rings
use Rattle.tsb_step.specs.Signs.{shown, is_lasting, display, field, watched}
use Rattle.tsb_step.specs.State.{State}
use Rattle.tsb_step.specs.Step.{ticked}
use Rattle.tsb_step.specs.Tick.{preempts_given, service, target, forced, recycle, calls_given, phases_given, phase_read, ready, gapped, held, lets_go, rings_given, moves, moved, done, after_moves, gives_up, new_rings, after_rings, overlaps_given, next}
use Rattle.tsb_laws.specs.Sizes.{IsOfFewer, full, full_state}
use Rattle.tsb_laws.proofs.sizes.CallLemmas.{counted-same, pedestrian_memory-same, vehicle_memory-same}
use Rattle.tsb_laws.proofs.sizes.CoordLemmas.{forces-same, lets_walk_again-same}
use Rattle.tsb_laws.proofs.sizes.FoundLemmas as found
use Rattle.tsb_laws.proofs.sizes.HeadLemmas.{conflict-same, green_to_red-same, ordered-same, some_lasts-same, is_held-same}
use Rattle.tsb_laws.proofs.sizes.HeadLemmas as heads
use Rattle.tsb_laws.proofs.sizes.PhaseLemmas.{is_gapped-same, is_ready-same}
use Rattle.tsb_laws.proofs.sizes.PhaseLemmas as phase_lemmas
use Rattle.tsb_laws.proofs.sizes.RingLemmas.{given_up-same}
use Rattle.tsb_laws.proofs.sizes.RingLemmas as ring

memories-same : (plan : Plan) → IsOfFewer plan → (given : calls.Given) (done : settled.Done) (w : calls.Memories) →
    settled.next (full plan) given done w ≡ settled.next plan given done w
memories-same plan few given done w =
    rw (vehicle_memory-same plan few, pedestrian_memory-same plan few, counted-same plan few) refl

-- ## What is shown

module _ (s : State) where
  pub field-same : field (full_state s) ≡ field s
  unfolding field
  field-same = ap (λ (h : Heads). laid_over s.lamp h) (ordered-same s.plan (shown s))

  pub display-same : display (full_state s) ≡ display s
  unfolding display
  display-same = ap (λ (h : Heads). if is_some s.trip then flashing h else h) (ordered-same s.plan (shown s))

pub watched-same : (a b : State) → IsOfFewer b.plan → watched (full_state a) (full_state b) ≡ full_state (watched a b)
unfolding watched
watched-same a b few = rw (field-same a, field-same b, conflict-same b.plan few, green_to_red-same b.plan) refl

-- ## What a tick finds

module _ (s : State) (row : Row) (few : IsOfFewer s.plan) where
  forced-same : (p : ℕ) → forced (full_state s) p ≡ forced s p
  forced-same p = forces-same s.plan s.pattern s.correction (s.now + 1) p

  recycle-same : (p : ℕ) → recycle (full_state s) p ≡ recycle s p
  recycle-same p = lets_walk_again-same s.plan s.pattern s.correction (s.now + 1) p

  phases_given-same : phases_given (full_state s) row ≡ phases_given s row
  unfolding phases_given
  phases_given-same =
      ap₂ (λ (f g : ℕ → Bool). record (phases_given (full_state s) row) { output = clipped f; conflict = clipped g })
      (fun_ext (λ p. found.output-same s row few p)) (fun_ext (λ p. found.conflict-same s row few p))
      ∙ ap₂ (λ (f g : ℕ → Bool). record (phases_given (full_state s) row) {
        output = (phases_given s row).output;
        conflict = (phases_given s row).conflict;
        callable = clipped f;
        pedestrian_call = clipped g;
      }) (fun_ext (λ p. found.callable-same s row few p)) (fun_ext (λ p. found.walk_call-same s row few p))
      ∙ ap₂ (λ (f : ℕ → ℕ) (o : Option ℕ). record (phases_given s row) {
        count = within 0 f;
        service = o;
        must_end = (phases_given (full_state s) row).must_end;
        forced = (phases_given (full_state s) row).forced;
        recycle = (phases_given (full_state s) row).recycle;
      }) (fun_ext (λ p. found.count-same s row few p)) (found.service-same s row few)
      ∙ ap₂ (λ (f g : ℕ → Bool). record (phases_given s row) {
        must_end = clipped f;
        forced = clipped g;
        recycle = (phases_given (full_state s) row).recycle;
      }) (fun_ext (λ p. found.must_end-same s row few p)) (fun_ext (λ p. forced-same p))
      ∙ ap (λ (f : ℕ → Bool). record (phases_given s row) { recycle = clipped f }) (fun_ext (λ p. recycle-same p))

  ready-same : (p : ℕ) → ready (full_state s) row p ≡ ready s row p
  ready-same p =
      ap (λ (f : phase.Given → ℕ → phase.Phase → Bool). f (phases_given (full_state s) row) p (phase_read s p)) (is_ready-same s.plan)
      ∙ ap (λ (g : phase.Given). timing.is_ready s.plan g p (phase_read s p)) phases_given-same

  held-same : (p : ℕ) → held (full_state s) row p ≡ held s row p
  unfolding held
  held-same p =
      ap (λ (f : Bool → (ℕ → Overlap) → ℕ → Bool). f (is_some (service (full_state s) row)) s.overlaps p) (is_held-same s.plan few)
      ∙ ap (λ (o : Option ℕ). is_held s.plan (is_some o) s.overlaps p) (found.service-same s row few)

  lets_go-same : (p : ℕ) → lets_go (full_state s) row p ≡ lets_go s row p
  lets_go-same p = ap₂ (λ (a b : Bool). a && not b) (found.over-same s row few p) (held-same p)

  rings_given-same : rings_given (full_state s) row ≡ rings_given s row
  unfolding rings_given
  rings_given-same =
      ap₂ (λ (f g : ℕ → Bool). record (rings_given (full_state s) row) { callable = clipped f; ready = clipped g })
      (fun_ext (λ p. found.callable-same s row few p)) (fun_ext (λ p. ready-same p))
      ∙ ap₂ (λ (f g : ℕ → Bool). record (rings_given s row) {
        over = clipped f;
        reverted = clipped g;
        target = target (full_state s) row;
      }) (fun_ext (λ p. lets_go-same p)) (fun_ext (λ p. found.reverted-same s row few p))
      ∙ ap (λ (t : Option (ℕ → Bool)). record (rings_given s row) { target = t }) (found.target-same s row few)

  moves-same : moves (full_state s) row ≡ moves s row
  unfolding moves
  moves-same =
      ap (λ (f : rings.State → rings.Given → Moves). f s.rings (rings_given (full_state s) row)) (ring.moves-same s.plan)
      ∙ ap (λ (g : rings.Given). ring_moves.moves s.plan s.rings g) rings_given-same

  gapped-same : (p : ℕ) → gapped (full_state s) row p ≡ gapped s row p
  gapped-same p =
      is_gapped-same s.plan (phases_given (full_state s) row) p (phase_read s p)
      ∙ ap (λ (g : phase.Given). timing.is_gapped_now s.plan g p (phase_read s p)) phases_given-same

  done-same : done (full_state s) row ≡ done s row
  done-same =
      ap (λ (m : Moves). record (done (full_state s) row) { starts = ring_moves.is_started m; ends = ring_moves.is_ended m }) moves-same
      ∙ ap₂ (λ (g : ℕ → Bool) (o : Option Service). record (done (full_state s) row) {
        starts = (done s row).starts;
        ends = (done s row).ends;
        gapped = clipped g;
        service = option_map (λ (x : Service). x.preempt) o;
      }) (fun_ext (λ p. gapped-same p)) (found.new_service-same s row few)
      ∙ ap (λ (g : phase.Given). record (done s row) { walks = clipped (λ p. pedestrian.walks_again g p (phase_read s p)) }) phases_given-same

  moved-same : moved (full_state s) row ≡ moved s row
  moved-same =
      ap (λ (m : Moves). record (moved s row) {
        ends = ring_moves.is_ended m;
        clears = ring_moves.is_cleared m;
        starts = ring_moves.is_started m;
      }) moves-same

  new_memories-same : (after_moves (full_state s) row).memories ≡ (after_moves s row).memories
  new_memories-same =
      memories-same s.plan few (calls_given (full_state s) row) (done (full_state s) row) s.memories
      ∙ ap₂ (λ (g : calls.Given) (d : settled.Done). settled.next s.plan g d s.memories) (found.calls_given-same s row few) done-same

  new_phases-same : (p : ℕ) → (after_moves (full_state s) row).phases p ≡ (after_moves s row).phases p
  new_phases-same p =
      phase_lemmas.next-same s.plan (phases_given (full_state s) row) (moved (full_state s) row) p (s.phases p)
      ∙ ap₂ (λ (g : phase.Given) (m : phase.Moved). phase_next.next s.plan g m p (s.phases p)) phases_given-same moved-same

  moved_rings-same : (after_moves (full_state s) row).rings ≡ (after_moves s row).rings
  moved_rings-same =
      ap (λ (f : rings.State → rings.Given → rings.State). f s.rings (rings_given (full_state s) row)) (ring.next-same s.plan)
      ∙ ap (λ (g : rings.Given). rings_next.next s.plan s.rings g) rings_given-same

  new_preempts-same : (after_moves (full_state s) row).preempts ≡ (after_moves s row).preempts
  new_preempts-same = found.next_preempts-same s.plan few (preempts_given s row) s.preempts

  after_moves-same : after_moves (full_state s) row ≡ full_state (after_moves s row)
  after_moves-same =
      ap₂ (λ (d : ℕ → Detector) (m : calls.Memories). record (after_moves (full_state s) row) { detectors = d; memories = m })
      (found.new_detectors-same s row few) new_memories-same
      ∙ ap₂ (λ (f : ℕ → phase.Phase) (r : rings.State). record (after_moves (full_state s) row) {
        detectors = (after_moves s row).detectors;
        memories = (after_moves s row).memories;
        phases = f;
        rings = r;
      }) (fun_ext (λ p. new_phases-same p)) moved_rings-same
      ∙ ap (λ (e : preempts.Preempts). record (full_state (after_moves s row)) { preempts = e }) new_preempts-same

  -- ## What the rings give up

  lasting-same : is_lasting (after_moves (full_state s) row) ≡ is_lasting (after_moves s row)
  lasting-same =
      ap (λ (a : State). is_lasting a) after_moves-same
      ∙ ap (λ (f : Shown → Bool). f (shown (after_moves s row))) (some_lasts-same s.plan few)

  gives_up-same : gives_up (full_state s) row ≡ gives_up s row
  unfolding gives_up
  gives_up-same = ap₂ (λ (o : Option ℕ) (b : Bool). is_anew s.plan o && not b) (found.service-same s row few) lasting-same

  new_rings-same : new_rings (full_state s) row ≡ new_rings s row
  unfolding new_rings
  new_rings-same =
      ap (λ (f : Option (ℕ → Bool) → rings.State → rings.State). if gives_up (full_state s) row
      then f (target (full_state s) row) (after_moves (full_state s) row).rings else (after_moves (full_state s) row).rings) (given_up-same s.plan)
      ∙ ap (λ (t : Option (ℕ → Bool)). if gives_up (full_state s) row
      then given_up s.plan t (after_moves (full_state s) row).rings else (after_moves (full_state s) row).rings) (found.target-same s row few)
      ∙ ap₂ (λ (b : Bool) (r : rings.State). if b then given_up s.plan (target s row) r else r) gives_up-same (ap (λ (a : State). a.rings) after_moves-same)

  after_rings-same : after_rings (full_state s) row ≡ full_state (after_rings s row)
  after_rings-same = ap₂ (λ (a : State) (r : rings.State). record a { rings = r }) after_moves-same new_rings-same

  -- ## What overlaps see

  seen-same : overlaps_given (full_state s) row ≡ overlaps_given s row
  seen-same =
      ap₂ (λ (a : State) (o : Option ℕ). record (overlaps_given s row) {
        shown = shown a;
        timer = λ p. (a.phases p).timer;
        preempted = is_some o;
      }) after_rings-same (found.service-same s row few)

  overlaps-same : overlaps.next (full s.plan) (overlaps_given (full_state s) row) s.overlaps ≡ overlaps.next s.plan (overlaps_given s row) s.overlaps
  overlaps-same =
      ap (λ (f : overlaps.Given → (ℕ → Overlap) → ℕ → Overlap). f (overlaps_given (full_state s) row) s.overlaps) (heads.next-same s.plan few)
      ∙ ap (λ (g : overlaps.Given). overlaps.next s.plan g s.overlaps) seen-same

  next-same : next (full_state s) row ≡ full_state (next s row)
  next-same = ap₂ (λ (a : State) (f : ℕ → Overlap). record a { overlaps = f }) after_rings-same overlaps-same

  pub ticked-same : ticked row (full_state s) ≡ full_state (ticked row s)
  ticked-same = go (is_some s.trip)
    where
      go : (b : Bool) → (if b then record (full_state s) { now = s.now + 1 } else (if b then next (full_state s) row else watched (full_state s) (next (full_state s) row)))
          ≡ full_state (if b then record s { now = s.now + 1 } else (if b then next s row else watched s (next s row)))
      go true = refl
      go false = ap (watched (full_state s)) next-same ∙ watched-same s (next s row) few
