-- A tick makes the same of both benches.
use Rattle.std.proofs.Common.{◌≡◌, ℕ, ◌+◌, ◌==◌, ◌≤◌, Bool, true, false, not, ◌&&◌, List, ◌++◌, Option, Some, None, is_some, option_map, refl, sym, ◌∙◌, ap, ap₂, inl, inr}
use Rattle.std.proofs.Math.Path.{fun_ext}
use Rattle.std.proofs.lemmas.Bool.{cases_Bool}
use Rattle.tsb_step.specs.tsb_cells.declared.timer.Timer.{Timer}
use Rattle.tsb_step.specs.tsb_types.declared.row.Row.{Row}
use Rattle.tsb_step.specs.tsb_types.Clip.{clipped, within}
use Rattle.tsb_step.specs.tsb_types.Sets.{has_detector, is_phase}
use Rattle.tsb_step.specs.tsb_plan.Plan.{Plan}
use Rattle.tsb_step.specs.tsb_plan.declared.object.Object.TheVariants.{PreemptChoosesAnew}
use Rattle.tsb_step.specs.tsb_plan.Parts.{call_phase, is_anew}
use Rattle.tsb_step.specs.tsb_detect.Detector.{Detector, all_after}
use Rattle.tsb_step.specs.tsb_preempt.Preempts.{Preempts}
use Rattle.tsb_step.specs.tsb_calls.Memories.{Memories, has_output}
use Rattle.tsb_step.specs.tsb_calls.Callable.{has_pedestrian_call, is_callable, has_conflict}
use Rattle.tsb_step.specs.tsb_phase.Phase as phase
use Rattle.tsb_step.specs.tsb_phase.Next as phase_next
use Rattle.tsb_step.specs.tsb_phase.Pedestrian as pedestrian
use Rattle.tsb_step.specs.tsb_phase.Ready.{is_ready}
use Rattle.tsb_step.specs.tsb_ring.Rings as rings
use Rattle.tsb_step.specs.tsb_ring.Rings.{Ring, number}
use Rattle.tsb_step.specs.tsb_ring.Next as rings_next
use Rattle.tsb_step.specs.tsb_ring.Moves.{is_ended, is_started}
use Rattle.tsb_step.specs.tsb_coord.Coordinated.{serving_order}
use Rattle.tsb_step.specs.tsb_overlap.Overlap.{Overlap}
use Rattle.tsb_step.specs.State.{State, interval}
use Rattle.tsb_step.specs.Tick.{new_service, service, hold, forced, recycle, omitted, green_timer, new_detectors, calls_given, set, callable, conflict, pedestrian_call, phases_given, phase_read, ready, over, held, lets_go, reverted, gapped, walks_again, rings_given, moves, moved, done, gives_up, overlaps_given, next, preempts_given, preempts_read}
use Rattle.tsb_step.proofs.GiveUpLemmas.{gives_none, keeps_rings}
use Rattle.tsb_overlap.proofs.OwnLemmas.{untimed-stays, untimed-free}
use Rattle.tsb_step.proofs.tsb_phase.MoveLemmas.{stays_at_power_up}
use Rattle.tsb_laws.specs.Widened.{IsNarrow, widened, widened_state, AreOfTable, IsLampWithin}
use Rattle.tsb_laws.proofs.versions.ListLemmas.{is_narrow, IsSameOnNarrow, IsBeyondNarrow}
use Rattle.tsb_laws.proofs.versions.PlanLemmas.{zeros, beyond-narrow}
use Rattle.tsb_laws.proofs.versions.CoordLemmas.{running-same, asks_hold-same, asks_omit-same, forces-same, lets_walk_again-same, serving_order-same}
use Rattle.tsb_laws.proofs.versions.HeadLemmas.{untimed}
use Rattle.tsb_laws.proofs.versions.PreemptLemmas as preempts
use Rattle.tsb_laws.proofs.versions.CallLemmas as calls
use Rattle.tsb_laws.proofs.versions.PhaseLemmas as phases
use Rattle.tsb_laws.proofs.versions.WantLemmas as wants
use Rattle.tsb_laws.proofs.versions.MoveLemmas.{rings-same, moves-same}
use Rattle.tsb_laws.proofs.versions.RangeLemmas.{narrow_or_none, IsLow, not-started, not-ended, commitment-narrow, side-low, crossing-low}

-- what holds of every state of the bench of 8 phases and 2 sides
pub record IsNarrowState (s : State) : Type 0 where
  pub plan : IsNarrow s.plan
  pub edits : AreOfTable s.desk.edits
  pub resting : (p : ℕ) → is_narrow p ≡ false → s.phases p ≡ phase.at_power_up
  pub commitments : (r : Ring) → narrow_or_none (s.rings.commitment r) ≡ true
  pub side : s.rings.side ≤ 2
  pub crossing : IsLow s.rings.crossing
  pub lamp : IsLampWithin s.lamp

-- ## Preempts, coordination, detectors

new_service-same : (s : State) (row : Row) → IsNarrow s.plan → new_service (widened_state s) row ≡ new_service s row
unfolding new_service
new_service-same s row narrow = preempts.new_service-same s.plan (preempts_given s row) (preempts_read s) narrow

service-same : (s : State) (row : Row) → IsNarrow s.plan → service (widened_state s) row ≡ service s row
service-same s row narrow = ap (option_map (λ x. x.preempt)) (new_service-same s row narrow)

-- orders on the wide plan, of phases 1 to 16
abbrev wide_omitted : State → ℕ → Bool
wide_omitted s = clipped (omitted (widened_state s))

abbrev wide_hold : State → ℕ → Bool
wide_hold s = clipped (hold (widened_state s))

omitted-same : (s : State) → IsNarrow s.plan → IsSameOnNarrow (wide_omitted s) (clipped (omitted s))
omitted-same s narrow p in_it = ap (λ b. is_phase p && b) (asks_omit-same s.plan s.pattern p narrow in_it)

hold-same : (s : State) → IsNarrow s.plan → IsSameOnNarrow (wide_hold s) (clipped (hold s))
hold-same s narrow p in_it = ap (λ b. is_phase p && b) (asks_hold-same s.plan s.pattern p narrow in_it)

green_timer-same : (s : State) (o : Option ℕ) → green_timer (widened_state s) o ≡ green_timer s o
green_timer-same s None = refl
green_timer-same s (Some p) = refl

detectors-same : (s : State) (row : Row) → new_detectors (widened_state s) row ≡ new_detectors s row
unfolding new_detectors
detectors-same s row =
    ap (λ (green : ℕ → Timer). all_after s.plan (s.now + 1) (has_detector row.vehicles) green s.detectors)
    (fun_ext (λ d. green_timer-same s (call_phase s.plan d)))

-- ## Calls

calls_given-same : (s : State) (row : Row) → IsNarrow s.plan →
    calls_given (widened_state s) row ≡ calls.wide_given (wide_omitted s) (calls_given s row)
calls_given-same s row narrow =
    rw (
      detectors-same s row,
      running-same s.plan s.pattern,
      preempts.service_ended-same s.plan (preempts_given s row) (preempts_read s) narrow,
    ) refl

set-same : (s : State) (row : Row) → IsNarrow s.plan → set (widened_state s) row ≡ set s row
set-same s row narrow =
    rw (calls_given-same s row narrow) (calls.as_set-same s.plan (wide_omitted s) (calls_given s row) s.memories)

count-same : (s : State) (row : Row) → IsNarrow s.plan → (set (widened_state s) row).count ≡ (set s row).count
count-same s row narrow = ap (λ (m : Memories). m.count) (set-same s row narrow)

callable-same : (s : State) (row : Row) → IsNarrow s.plan → callable (widened_state s) row ≡ callable s row
callable-same s row narrow =
    ap₂ (λ given m. is_callable (widened s.plan) given m) (calls_given-same s row narrow) (set-same s row narrow)
    ∙ fun_ext (λ p. calls.is_callable-same s.plan (wide_omitted s) (calls_given s row) (set s row) p narrow (omitted-same s narrow))

conflict-same : (s : State) (row : Row) → IsNarrow s.plan → conflict (widened_state s) row ≡ conflict s row
conflict-same s row narrow =
    ap₂ (λ given m. has_conflict (widened s.plan) given m) (calls_given-same s row narrow) (set-same s row narrow)
    ∙ fun_ext (λ p. calls.has_conflict-same s.plan (wide_omitted s) (calls_given s row) (set s row) p narrow (omitted-same s narrow))

pedestrian_call-same : (s : State) (row : Row) → IsNarrow s.plan → pedestrian_call (widened_state s) row ≡ pedestrian_call s row
pedestrian_call-same s row narrow =
    ap₂ (λ given m. has_pedestrian_call (widened s.plan) given m) (calls_given-same s row narrow) (set-same s row narrow)
    ∙ fun_ext (λ p. calls.has_pedestrian_call-same s.plan (wide_omitted s) (calls_given s row) (set s row) p narrow)

output-same : (s : State) (row : Row) → IsNarrow s.plan →
    has_output (widened s.plan) (calls_given (widened_state s) row) ≡ has_output s.plan (calls_given s row)
output-same s row narrow =
    ap (λ given. has_output (widened s.plan) given) (calls_given-same s row narrow)
    ∙ fun_ext (λ p. calls.has_output-same s.plan (wide_omitted s) (calls_given s row) p)

none-beyond : (s : State) (row : Row) → IsNarrow s.plan → IsBeyondNarrow (callable s row) false
none-beyond s row narrow p out = calls.not-callable s.plan (calls_given s row) (set s row) p narrow (beyond-narrow p out)

-- none beyond the eighth is given to the layers
none-told : (s : State) (row : Row) → IsNarrow s.plan → IsBeyondNarrow (clipped (callable s row)) false
none-told s row narrow p out = ap (λ b. is_phase p && b) (none-beyond s row narrow p out) ∙ and-no (is_phase p)
  where
    and-no : (b : Bool) → (b && false) ≡ false
    and-no true = refl
    and-no false = refl

-- ## Phase timing

forced-same : (s : State) → IsNarrow s.plan → forced (widened_state s) ≡ forced s
forced-same s narrow = fun_ext (λ p. forces-same s.plan s.pattern s.correction (s.now + 1) p narrow)

recycle-same : (s : State) → IsNarrow s.plan → recycle (widened_state s) ≡ recycle s
recycle-same s narrow = fun_ext (λ p. lets_walk_again-same s.plan s.pattern s.correction (s.now + 1) p narrow)

phases_given-same : (s : State) (row : Row) → IsNarrow s.plan →
    phases_given (widened_state s) row ≡ phases.wide_given (wide_hold s) (phases_given s row)
unfolding phases_given
phases_given-same s row narrow = λ i. record {
  output = clipped (output-same s row narrow i);
  conflict = clipped (conflict-same s row narrow i);
  callable = clipped (callable-same s row narrow i);
  pedestrian_call = clipped (pedestrian_call-same s row narrow i);
  count = within 0 (count-same s row narrow i);
  runs = running-same s.plan s.pattern i;
  service = service-same s row narrow i;
  hold = wide_hold s;
  must_end = clipped (preempts.must_end-same s.plan (preempts_given s row) (preempts_read s) narrow i);
  forced = clipped (forced-same s narrow i);
  recycle = clipped (recycle-same s narrow i);
}

none-given : (s : State) (row : Row) → IsNarrow s.plan → IsBeyondNarrow (phases_given s row).callable false
unfolding phases_given
none-given s row narrow = none-told s row narrow

hold-given : (s : State) (row : Row) → IsNarrow s.plan → IsSameOnNarrow (wide_hold s) (phases_given s row).hold
unfolding phases_given
hold-given s row narrow = hold-same s narrow

-- a phase beyond the eighth is never ready
not-ready : (plan : Plan) (given : phase.Given) (p : ℕ) (x : phase.Phase) → x ≡ phase.at_power_up → is_ready plan given p (phase.as_read x) ≡ false
unfolding is_ready
not-ready plan given p x e = rw e refl

ready-same : (s : State) (row : Row) → IsNarrowState s → ready (widened_state s) row ≡ ready s row
ready-same s row is = fun_ext (λ p. at p)
  where
    at : (p : ℕ) → ready (widened_state s) row p ≡ ready s row p
    at p = elim (cases_Bool (is_narrow p)) [
      | inl in_it ↦ rw (phases_given-same s row is.plan)
          (phases.is_ready-same s.plan (wide_hold s) (phases_given s row) p (phase_read s p) is.plan in_it
          (none-given s row is.plan) (hold-given s row is.plan))
      | inr out ↦ not-ready (widened s.plan) (phases_given (widened_state s) row) p (s.phases p) (is.resting p out)
          ∙ sym (not-ready s.plan (phases_given s row) p (s.phases p) (is.resting p out))
    ]

over-same : (s : State) → over (widened_state s) ≡ over s
over-same s = fun_ext (λ p. phases.is_over-same s.plan p (phase_read s p))

reverted-same : (s : State) → reverted (widened_state s) ≡ reverted s
reverted-same s = fun_ext (λ p. phases.red_revert_passed-same s.plan p (phase_read s p))

gapped-same : (s : State) (row : Row) → IsNarrow s.plan → gapped (widened_state s) row ≡ gapped s row
gapped-same s row narrow =
    fun_ext (λ p. rw (phases_given-same s row narrow)
    (phases.gapped_now-same s.plan (wide_hold s) (phases_given s row) p (phase_read s p) narrow (none-given s row narrow)))

-- a walk begins within a green in both or in neither
walks-same : (s : State) (row : Row) → IsNarrow s.plan → walks_again (widened_state s) row ≡ walks_again s row
walks-same s row narrow = fun_ext (λ p. ap (λ (given : phase.Given). pedestrian.walks_again given p (phase_read s p)) (phases_given-same s row narrow))

-- ## Rings

abbrev order : Plan → State → Ring → List ℕ
order plan s r = serving_order plan s.pattern (number r)

abbrev order_with_zeros : State → Ring → List ℕ
order_with_zeros s r = order s.plan s r ++ zeros

order-same : (s : State) → IsNarrow s.plan → order (widened s.plan) s ≡ order_with_zeros s
order-same s narrow = fun_ext (λ r. serving_order-same s.plan s.pattern (number r) narrow)

-- no overlap holds a phase
none-held : (s : State) (row : Row) (p : ℕ) → IsNarrow s.plan → held s row p ≡ false
unfolding held
none-held s row p narrow = untimed-free s.plan (is_some (service s row)) s.overlaps p (untimed s.plan narrow)

wide-none-held : (s : State) (row : Row) (p : ℕ) → IsNarrow s.plan → held (widened_state s) row p ≡ false
unfolding held
wide-none-held s row p narrow =
    untimed-free (widened s.plan) (is_some (service (widened_state s) row)) s.overlaps p (untimed s.plan narrow)

lets_go-same : (s : State) (row : Row) → IsNarrow s.plan → lets_go (widened_state s) row ≡ lets_go s row
lets_go-same s row narrow = fun_ext (λ p.
    ap₂ (λ (f : ℕ → Bool) (b : Bool). f p && not b) (over-same s) (wide-none-held s row p narrow ∙ sym (none-held s row p narrow)))

rings_given-same : (s : State) (row : Row) → IsNarrowState s →
    rings_given (widened_state s) row ≡ wants.wide_given (wide_omitted s) (rings_given s row)
unfolding rings_given
rings_given-same s row is = λ i. record {
  interval = interval s;
  sequence = order-same s is.plan i;
  callable = clipped (callable-same s row is.plan i);
  omitted = wide_omitted s;
  ready = clipped (ready-same s row is i);
  over = clipped (lets_go-same s row is.plan i);
  reverted = clipped (reverted-same s i);
  target = preempts.target-same s.plan (preempts_given s row) (preempts_read s) is.plan i;
}

none-wanted : (s : State) (row : Row) → IsNarrow s.plan → IsBeyondNarrow (rings_given s row).callable false
unfolding rings_given
none-wanted s row narrow = none-told s row narrow

omitted-given : (s : State) (row : Row) → IsNarrow s.plan → IsSameOnNarrow (wide_omitted s) (rings_given s row).omitted
unfolding rings_given
omitted-given s row narrow = omitted-same s narrow

tick-moves-same : (s : State) (row : Row) → IsNarrowState s → moves (widened_state s) row ≡ moves s row
unfolding moves
tick-moves-same s row is =
    rw (rings_given-same s row is)
    (moves-same s.plan s.rings (wide_omitted s) (rings_given s row) is.plan (none-wanted s row is.plan) (omitted-given s row is.plan) is.side)

tick-rings-same : (s : State) (row : Row) → IsNarrowState s →
    rings_next.next (widened s.plan) s.rings (rings_given (widened_state s) row) ≡ rings_next.next s.plan s.rings (rings_given s row)
tick-rings-same s row is =
    rw (rings_given-same s row is)
    (rings-same s.plan s.rings (wide_omitted s) (rings_given s row) is.plan (none-wanted s row is.plan) (omitted-given s row is.plan) is.side)

-- version 1 has no preempts that choose anew
none-chooses : (plan : Plan) (service : Option ℕ) → IsNarrow plan → is_anew plan service ≡ false
none-chooses plan None narrow = refl
none-chooses plan (Some n) narrow = ap (λ (v : ℕ). v == 1) (narrow.placed PreemptChoosesAnew n refl)

gives-none : (s : State) (row : Row) → IsNarrowState s → gives_up s row ≡ false
gives-none s row is = gives_none s row (none-chooses s.plan (service s row) is.plan)

wide-gives-none : (s : State) (row : Row) → IsNarrowState s → gives_up (widened_state s) row ≡ false
wide-gives-none s row is =
    gives_none (widened_state s) row
    (ap (is_anew (widened s.plan)) (service-same s row is.plan) ∙ none-chooses s.plan (service s row) is.plan)

new_rings-same : (s : State) (row : Row) → IsNarrowState s → (next (widened_state s) row).rings ≡ (next s row).rings
new_rings-same s row is =
    keeps_rings (widened_state s) row (wide-gives-none s row is) ∙ tick-rings-same s row is ∙ sym (keeps_rings s row (gives-none s row is))

moved-same : (s : State) (row : Row) → IsNarrowState s → moved (widened_state s) row ≡ moved s row
moved-same s row is = rw (tick-moves-same s row is) refl

done-same : (s : State) (row : Row) → IsNarrowState s → done (widened_state s) row ≡ done s row
done-same s row is = λ i. record {
  starts = is_started (tick-moves-same s row is i);
  ends = is_ended (tick-moves-same s row is i);
  gapped = clipped (gapped-same s row is.plan i);
  walks = clipped (walks-same s row is.plan i);
  service = service-same s row is.plan i;
}

-- ## The state after a tick

-- a phase beyond the eighth stays as it was at power-up
stays : (s : State) (row : Row) (p : ℕ) → IsNarrowState s → is_narrow p ≡ false → (next s row).phases p ≡ phase.at_power_up
unfolding moves
stays s row p is out =
    stays_at_power_up s.plan (phases_given s row) (moved s row) p (s.phases p) (is.resting p out)
    (not-started s.plan s.rings (rings_given s row) p is.plan is.commitments out)
    (not-ended s.plan s.rings (rings_given s row) p is.plan out)

wide-stays : (s : State) (row : Row) (p : ℕ) → IsNarrowState s → is_narrow p ≡ false →
    (next (widened_state s) row).phases p ≡ phase.at_power_up
unfolding moves
wide-stays s row p is out =
    stays_at_power_up (widened s.plan) (phases_given (widened_state s) row) (moved (widened_state s) row) p (s.phases p) (is.resting p out)
    (ap (λ (m : phase.Moved). m.starts p) (moved-same s row is) ∙ not-started s.plan s.rings (rings_given s row) p is.plan is.commitments out)
    (ap (λ (m : phase.Moved). m.ends p) (moved-same s row is) ∙ not-ended s.plan s.rings (rings_given s row) p is.plan out)

phases-same : (s : State) (row : Row) → IsNarrowState s → (next (widened_state s) row).phases ≡ (next s row).phases
phases-same s row is = fun_ext (λ p. at p)
  where
    at : (p : ℕ) → (next (widened_state s) row).phases p ≡ (next s row).phases p
    at p = elim (cases_Bool (is_narrow p)) [
      | inl in_it ↦ ap₂ (λ given moves. phase_next.next (widened s.plan) given moves p (s.phases p)) (phases_given-same s row is.plan) (moved-same s row is)
          ∙ (phases.next-same s.plan (wide_hold s) (phases_given s row) (moved s row) p (s.phases p) is.plan in_it (none-given s row is.plan))
      | inr out ↦ wide-stays s row p is out ∙ sym (stays s row p is out)
    ]

memories-same : (s : State) (row : Row) → IsNarrowState s → (next (widened_state s) row).memories ≡ (next s row).memories
memories-same s row is =
    rw (calls_given-same s row is.plan, done-same s row is)
    (calls.memories-same s.plan (wide_omitted s) (calls_given s row) (done s row) s.memories is.plan)

-- no tick changes an overlap
overlaps-same : (s : State) (row : Row) → IsNarrowState s → (next (widened_state s) row).overlaps ≡ (next s row).overlaps
overlaps-same s row is = fun_ext (λ o.
    untimed-stays (widened s.plan) (overlaps_given (widened_state s) row) s.overlaps o (untimed s.plan is.plan o)
    ∙ sym (untimed-stays s.plan (overlaps_given s row) s.overlaps o (untimed s.plan is.plan o)))

-- the state at the next tick number, with other parts
abbrev with_parts : State → (ℕ → Detector) → Memories → (ℕ → phase.Phase) → rings.State → Preempts → (ℕ → Overlap) → State
with_parts s d m p r q v = record s { now = s.now + 1; detectors = d; memories = m; phases = p; rings = r; preempts = q; overlaps = v }

parts-same : (s : State) (d e : ℕ → Detector) (m n : Memories) (p o : ℕ → phase.Phase) (r t : rings.State) (q u : Preempts) (v w : ℕ → Overlap) →
    d ≡ e → m ≡ n → p ≡ o → r ≡ t → q ≡ u → v ≡ w → with_parts s d m p r q v ≡ with_parts s e n o t u w
parts-same s d e m n p o r t q u v w f g h i j k = rw (f, g, h, i, j, k) refl

pub next-same : (s : State) (row : Row) → IsNarrowState s → next (widened_state s) row ≡ widened_state (next s row)
next-same s row is =
    parts-same (widened_state s) (new_detectors (widened_state s) row) (new_detectors s row)
    (next (widened_state s) row).memories (next s row).memories (next (widened_state s) row).phases (next s row).phases
    (next (widened_state s) row).rings (next s row).rings (next (widened_state s) row).preempts (next s row).preempts
    (next (widened_state s) row).overlaps (next s row).overlaps
    (detectors-same s row) (memories-same s row is) (phases-same s row is) (new_rings-same s row is)
    (preempts.preempts-same s.plan (preempts_given s row) s.preempts is.plan) (overlaps-same s row is)

pub next-narrow : (s : State) (row : Row) → IsNarrowState s → IsNarrowState (next s row)
next-narrow s row is = record {
  plan = is.plan;
  edits = is.edits;
  resting = λ p out. stays s row p is out;
  commitments = λ r. rw (keeps_rings s row (gives-none s row is)) (commitment-narrow s.plan s.rings (rings_given s row) r is.plan (is.commitments r));
  side = rw (keeps_rings s row (gives-none s row is)) (side-low s.plan s.rings (rings_given s row) is.side is.crossing);
  crossing = rw (keeps_rings s row (gives-none s row is)) (crossing-low s.plan s.rings (rings_given s row) is.plan is.side is.crossing);
  lamp = is.lamp;
}
