-- A call that is remembered stands until it is served, input by input and over a run. Proves `calls_are_kept`.
use Rattle.std.proofs.Common.{◌≡◌, ◌≢◌, ℕ, ◌≤◌, Bool, true, false, not, ◌&&◌, ◌||◌, List, [], ◌∷◌, ◌++◌, Option, Some, None, is_some, is_none, refl, sym, ap, ◌∙◌, inl, inr, ◌⊎◌}
use Rattle.std.proofs.lemmas.Bool.{or_right}
use Rattle.tsb_step.specs.tsb_types.declared.interval.Interval.TheVariants.{Green}
use Rattle.tsb_step.specs.tsb_types.declared.interval.PedestrianInterval.{PedestrianInterval}
use Rattle.tsb_step.specs.tsb_types.declared.interval.PedestrianInterval.TheVariants.{DontWalk, Walk, PedestrianClear}
use Rattle.tsb_step.specs.tsb_types.declared.row.Row.{Row}
use Rattle.tsb_step.specs.tsb_types.Flow.{gives_walk}
use Rattle.tsb_step.specs.tsb_types.Intervals.{is_green, is_walk}
use Rattle.tsb_step.specs.tsb_plan.Plan.{Plan, is_enabled, is_non_locking}
use Rattle.tsb_step.specs.tsb_rules.Rules.{serves_pedestrians}
use Rattle.tsb_step.specs.tsb_calls.Memories.{Memories, has_output, has_button, vehicle_memory, pedestrian_memory}
use Rattle.tsb_step.specs.tsb_calls.Settled.{walk_starts}
use Rattle.tsb_step.specs.tsb_phase.Phase.{Phase}
use Rattle.tsb_step.specs.tsb_phase.Next.{new_pedestrian}
use Rattle.tsb_step.specs.tsb_ring.Moves.{is_started}
use Rattle.tsb_step.specs.declared.inputs.Input.{Input}
use Rattle.tsb_step.specs.declared.inputs.Input.TheVariants as inputs
use Rattle.tsb_step.specs.declared.inputs.Input.TheVariants.{Tick}
use Rattle.tsb_step.specs.State.{State, Tripped, interval, pedestrian_part}
use Rattle.tsb_step.specs.Tick.{calls_given, set, pedestrian_call, service, phases_given, phase_read, walks_again, moves, moved, done, next}
use Rattle.tsb_step.specs.Step.{step}
use Rattle.tsb_step.specs.Runs.{replay, AreTaken}
use Rattle.tsb_step.specs.Laws.{IsConsistent}
use Rattle.tsb_step.specs.Good.{IsGood}
use Rattle.tsb_step.proofs.ClearLemmas.{phases_then}
use Rattle.tsb_step.proofs.GoodLemmas.{good_run}
use Rattle.tsb_step.proofs.ClipLemmas.{clipped_holds}
use Rattle.tsb_step.proofs.TellLemmas.{starts_no_green}
use Rattle.tsb_laws.specs.KeptCalls.{restarts, RunsOn, TurnsGreen, BeginsWalk, Remembers, HasTurnedGreen, HasBegunWalk}
use Rattle.tsb_laws.proofs.safety.DueLemmas.{clipped_at}
use Rattle.tsb_laws.proofs.safety.CoordinationLemmas.{few_now}
use Rattle.tsb_laws.proofs.operation.recycle.RecycledTickLemmas.{Again, again_parts, again_walks}
use Rattle.tsb_laws.proofs.operation.step.TickLemmas.{not_green, memories_then, memories_rest, memories_stay, turns_green, started_is_listed}

-- ## What is set stands

vehicle_stands : (s : State) (row : Row) (p : ℕ) → s.memories.vehicle p ≡ true → (set s row).vehicle p ≡ true
unfolding vehicle_memory
vehicle_stands s row p h = rw h refl

vehicle_is_set : (s : State) (row : Row) (p : ℕ) → is_enabled s.plan p ≡ true → is_non_locking s.plan p ≡ false → interval s p ≢ Green →
    has_output s.plan (calls_given s row) p ≡ true → (set s row).vehicle p ≡ true
unfolding vehicle_memory
vehicle_is_set s row p on locks red out =
    let dark : is_green (interval s p) ≡ false = not_green (interval s p) red in rw (on, locks, dark, out) (or_right (s.memories.vehicle p) true refl)

pedestrian_stands : (s : State) (row : Row) (p : ℕ) → s.memories.pedestrian p ≡ true → (set s row).pedestrian p ≡ true
unfolding pedestrian_memory
pedestrian_stands s row p h = rw h refl

not_walk : (x : PedestrianInterval) → x ≢ Walk → is_walk x ≡ false
not_walk DontWalk h = refl
not_walk Walk h = absurd (h refl)
not_walk PedestrianClear h = refl

pedestrian_is_set : (s : State) (row : Row) (p : ℕ) → serves_pedestrians s.plan p ≡ true → pedestrian_part s p ≢ Walk →
    has_button s.plan (calls_given s row) p ≡ true → (set s row).pedestrian p ≡ true
unfolding pedestrian_memory
pedestrian_is_set s row p on waits pressed =
    let still : is_walk (pedestrian_part s p) ≡ false = not_walk (pedestrian_part s p) waits in
    rw (on, pressed, still) (or_right (s.memories.pedestrian p) true refl)

-- ## In a tick

abbrev VehicleAfter : State → Row → ℕ → Type 0
VehicleAfter s row p = ((step s (Tick row)).memories.vehicle p ≡ true) ⊎ TurnsGreen s row p

abbrev PedestrianAfter : State → Row → ℕ → Type 0
PedestrianAfter s row p = ((step s (Tick row)).memories.pedestrian p ≡ true) ⊎ BeginsWalk s row p

vehicle_then : (s : State) (row : Row) (p : ℕ) → IsGood s → s.trip ≡ None → (set s row).vehicle p ≡ true → VehicleAfter s row p
vehicle_then s row p good dark h = go (is_started (moves s row) p) refl
  where
    go : (b : Bool) → is_started (moves s row) p ≡ b → VehicleAfter s row p
    go true k = inr (turns_green s row p good dark k)
    go false k =
        let stands : (next s row).memories.vehicle p ≡ true = rw (k, h) refl in
        inl (ap (λ (m : Memories). m.vehicle p) (memories_then s row dark) ∙ stands)

pub kept_unless : (memory walks : Bool) → memory ≡ true → walks ≡ false → (memory && not walks) ≡ true
kept_unless memory walks h k = rw (h, k) refl

pedestrian_stays : (s : State) (row : Row) (p : ℕ) → s.trip ≡ None → (set s row).pedestrian p ≡ true →
    walk_starts (done s row) (pedestrian_call s row) p ≡ false → PedestrianAfter s row p
pedestrian_stays s row p dark h k =
    let stands : (next s row).memories.pedestrian p ≡ true =
    kept_unless ((set s row).pedestrian p) (walk_starts (done s row) (pedestrian_call s row) p) h k in
    inl (ap (λ (m : Memories). m.pedestrian p) (memories_then s row dark) ∙ stands)

walk_is_given : (s : State) (row : Row) (p : ℕ) → IsGood s → s.trip ≡ None → s.plan.phase_count ≤ 16 → is_started (moves s row) p ≡ true →
    gives_walk (pedestrian_call s row p) (service s row) ≡ true →
    gives_walk ((phases_given s row).pedestrian_call p) (phases_given s row).service ≡ true
unfolding phases_given
walk_is_given s row p good dark few starts walks =
    ap (λ (b : Bool). b && is_none (service s row)) (clipped_at (pedestrian_call s row) s.plan p few (started_is_listed s row p good dark starts)) ∙ walks

walk_begins : (s : State) (row : Row) (p : ℕ) → IsGood s → s.trip ≡ None → s.plan.phase_count ≤ 16 → is_started (moves s row) p ≡ true →
    gives_walk (pedestrian_call s row p) (service s row) ≡ true → BeginsWalk s row p
walk_begins s row p good dark few starts walks =
    let given = walk_is_given s row p good dark few starts walks in
    let now : new_pedestrian s.plan (phases_given s row) (moved s row) p (phase_read s p) ≡ Walk = rw (starts, given) refl in
    record { was_not = not_so; begins = ap (λ (f : ℕ → Phase). (f p).pedestrian) (phases_then s row dark) ∙ now }
  where
    not_so : pedestrian_part s p ≢ Walk
    not_so k = let bad : DontWalk ≡ Walk = sym (good.walks p (starts_no_green s row p good starts)) ∙ k in absurd cc

-- so it does within the green of a phase that walks again
walks_within : (s : State) (row : Row) (p : ℕ) → IsGood s → s.trip ≡ None → (done s row).walks p ≡ true → BeginsWalk s row p
walks_within s row p good dark h = record { was_not = not_so; begins = again_walks s row p good dark it }
  where
    it : Again s row p
    it = again_parts s row p (clipped_holds (walks_again s row) p h)

    not_so : pedestrian_part s p ≢ Walk
    not_so k = let bad : DontWalk ≡ Walk = sym it.dark ∙ k in absurd cc

pedestrian_then : (s : State) (row : Row) (p : ℕ) → IsGood s → s.trip ≡ None → s.plan.phase_count ≤ 16 → (set s row).pedestrian p ≡ true →
    PedestrianAfter s row p
pedestrian_then s row p good dark few h =
    go (is_started (moves s row) p) (gives_walk (pedestrian_call s row p) (service s row)) ((done s row).walks p) refl refl refl
  where
    at_start : Bool
    at_start = gives_walk (pedestrian_call s row p) (service s row)

    go : (starts walks again : Bool) → is_started (moves s row) p ≡ starts → gives_walk (pedestrian_call s row p) (service s row) ≡ walks → (done s row).walks p ≡ again →
        PedestrianAfter s row p
    go true true again k l m = inr (walk_begins s row p good dark few k l)
    go starts walks true k l m = inr (walks_within s row p good dark m)
    go true false false k l m =
        pedestrian_stays s row p dark h (ap (λ (b : Bool). (b && at_start) || (done s row).walks p) k ∙ (ap (λ (b : Bool). b || (done s row).walks p) l ∙ m))
    go false walks false k l m = pedestrian_stays s row p dark h (ap (λ (b : Bool). (b && at_start) || (done s row).walks p) k ∙ m)

pub remembers : (s : State) → IsGood s → (row : Row) (p : ℕ) → s.plan.phase_count ≤ 16 → s.trip ≡ None → Remembers s row p
remembers s good row p few dark = record {
  vehicle = λ on locks red out. vehicle_then s row p good dark (vehicle_is_set s row p on locks red out);
  pedestrian = λ on waits pressed. pedestrian_then s row p good dark few (pedestrian_is_set s row p on waits pressed);
}

-- ## Over a run

vehicle_in_tick : (s : State) (row : Row) (p : ℕ) → IsGood s → s.memories.vehicle p ≡ true → VehicleAfter s row p
vehicle_in_tick s row p good h = go s.trip refl
  where
    go : (o : Option Tripped) → s.trip ≡ o → VehicleAfter s row p
    go None e = vehicle_then s row p good e (vehicle_stands s row p h)
    go (Some t) e = inl (ap (λ (m : Memories). m.vehicle p) (memories_rest s row (ap is_some e)) ∙ h)

pedestrian_in_tick : (s : State) (row : Row) (p : ℕ) → IsGood s → s.plan.phase_count ≤ 16 → s.memories.pedestrian p ≡ true → PedestrianAfter s row p
pedestrian_in_tick s row p good few h = go s.trip refl
  where
    go : (o : Option Tripped) → s.trip ≡ o → PedestrianAfter s row p
    go None e = pedestrian_then s row p good e few (pedestrian_stands s row p h)
    go (Some t) e = inl (ap (λ (m : Memories). m.pedestrian p) (memories_rest s row (ap is_some e)) ∙ h)

pub vehicles_stand : (plan : Plan) (is later : List Input) (p : ℕ) → IsConsistent plan → AreTaken plan (later ++ is) →
    RunsOn plan is later → (replay plan is).memories.vehicle p ≡ true →
    ((replay plan (later ++ is)).memories.vehicle p ≡ true) ⊎ HasTurnedGreen plan is p later
vehicles_stand plan is [] p ok taken on h = inl h
vehicles_stand plan is (i ∷ later) p ok taken on h =
    elim (vehicles_stand plan is later p ok taken.0 on.0 h) [
      | inl k ↦ one i on.1 k
      | inr k ↦ inr (record { older = k.older; next = k.next; newer = i ∷ k.newer; parts = ap (λ (l : List Input). i ∷ l) k.parts; started = k.started })
    ]
  where
    one : (j : Input) → restarts (replay plan (later ++ is)) j ≡ false → (replay plan (later ++ is)).memories.vehicle p ≡ true →
        ((step (replay plan (later ++ is)) j).memories.vehicle p ≡ true) ⊎ HasTurnedGreen plan is p (j ∷ later)
    one (inputs.Tick row) runs k =
        elim (vehicle_in_tick (replay plan (later ++ is)) row p (good_run plan (later ++ is) ok taken.0) k) [
          | inl m ↦ inl m
          | inr t ↦ inr (record { older = later; next = row; newer = []; parts = refl; started = record { was_not = t.was_not; starts = t.turns } })
        ]
    one j runs k = inl (ap (λ (m : Memories). m.vehicle p) (memories_stay (replay plan (later ++ is)) j refl runs) ∙ k)

pub pedestrians_stand : (plan : Plan) (is later : List Input) (p : ℕ) → IsConsistent plan → plan.phase_count ≤ 16 → AreTaken plan (later ++ is) →
    RunsOn plan is later → (replay plan is).memories.pedestrian p ≡ true →
    ((replay plan (later ++ is)).memories.pedestrian p ≡ true) ⊎ HasBegunWalk plan is p later
pedestrians_stand plan is [] p ok few taken on h = inl h
pedestrians_stand plan is (i ∷ later) p ok few taken on h =
    elim (pedestrians_stand plan is later p ok few taken.0 on.0 h) [
      | inl k ↦ one i on.1 k
      | inr k ↦ inr (record { older = k.older; next = k.next; newer = i ∷ k.newer; parts = ap (λ (l : List Input). i ∷ l) k.parts; begun = k.begun })
    ]
  where
    one : (j : Input) → restarts (replay plan (later ++ is)) j ≡ false → (replay plan (later ++ is)).memories.pedestrian p ≡ true →
        ((step (replay plan (later ++ is)) j).memories.pedestrian p ≡ true) ⊎ HasBegunWalk plan is p (j ∷ later)
    one (inputs.Tick row) runs k =
        elim (pedestrian_in_tick (replay plan (later ++ is)) row p (good_run plan (later ++ is) ok taken.0) (few_now plan (later ++ is) few) k) [
          | inl m ↦ inl m
          | inr t ↦ inr (record { older = later; next = row; newer = []; parts = refl; begun = t })
        ]
    one j runs k = inl (ap (λ (m : Memories). m.pedestrian p) (memories_stay (replay plan (later ++ is)) j refl runs) ∙ k)
