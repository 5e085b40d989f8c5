-- Coordinated phases end by their force-off, and what is omitted is not served.
use Rattle.std.proofs.Common.{◌≡◌, ℕ, ◌+◌, ◌-◌, ◌≤◌, arith, Bool, true, false, not, ◌&&◌, ◌||◌, if◌then◌else◌, List, [], ◌∷◌, Option, Some, None, is_some, is_none, option_map, refl, sym, ap, ◌∙◌, inl, inr, ◌⊎◌}
use Rattle.std.proofs.lemmas.Bool.{cases_Bool, and_parts, and_from, or_cases, or_left, or_right, true≢false, false≢true}
use Rattle.tsb_step.specs.tsb_types.declared.lamp.Lamp.{Lamp}
use Rattle.tsb_step.specs.tsb_types.declared.row.Row.{Row}
use Rattle.tsb_step.specs.tsb_types.Intervals.{is_green, is_dont_walk, in_service}
use Rattle.tsb_step.specs.tsb_types.Lists.{is}
use Rattle.tsb_step.specs.tsb_plan.Plan.{Plan}
use Rattle.tsb_step.specs.tsb_plan.Parts.{cycle, forces_late, floats}
use Rattle.tsb_step.specs.tsb_plan.Running.{running, split_in_effect, coordinates_in, is_coordinated_now, split_green, floating_in}
use Rattle.tsb_step.specs.tsb_phase.Phase.{Phase, Given, held_of}
use Rattle.tsb_step.specs.tsb_phase.Green.{initial_has_passed, has_reached_some, floats_off, forced_latch}
use Rattle.tsb_step.specs.tsb_phase.Pedestrian.{ended_by, pedestrian_now}
use Rattle.tsb_step.specs.tsb_phase.Next.{is_green_after}
use Rattle.tsb_step.specs.tsb_phase.Ready.{needs_forced, may_end, green_is_done, is_ready}
use Rattle.tsb_step.specs.tsb_coord.Coordinated.{local, force_off, yields_to, instant_of, late_end, is_late, is_forced_late, is_at_force_off, is_in_permissive_time, asks_force_off, asks_hold}
use Rattle.tsb_step.specs.tsb_coord.Correction.{counted_tick, steps_twice}
use Rattle.tsb_step.specs.tsb_preempt.Service.{Service}
use Rattle.tsb_step.specs.tsb_preempt.Preempts as preempts
use Rattle.tsb_step.specs.tsb_ring.Rings as rings
use Rattle.tsb_step.specs.tsb_ring.Rings.{Ring, Ring1, Ring2, serving}
use Rattle.tsb_step.specs.tsb_ring.Wants.{pick}
use Rattle.tsb_step.specs.tsb_ring.Next.{idle_pick, starting, new_commitment, next as rings_next}
use Rattle.tsb_step.specs.tsb_ring.Moves as ring_moves
use Rattle.tsb_step.specs.tsb_ring.Moves.{is_ended, is_started}
use Rattle.tsb_step.specs.tsb_ring.Laws.{IsListed, IsSymmetric}
use Rattle.tsb_step.proofs.tsb_coord.LocalLemmas.{never_late}
use Rattle.tsb_step.proofs.tsb_ring.ActLemmas.{starts_alone}
use Rattle.tsb_step.proofs.tsb_ring.MoveLemmas.{is-Some}
use Rattle.tsb_step.proofs.tsb_ring.SoundLemmas.{Commits, enters, stands, makes, commits, new_commits}
use Rattle.tsb_step.specs.declared.inputs.Input.{Input}
use Rattle.tsb_step.specs.declared.inputs.Input.TheVariants as inputs
use Rattle.tsb_step.specs.declared.inputs.Input.TheVariants.{Tick}
use Rattle.tsb_step.specs.State.{State, restarted, interval}
use Rattle.tsb_step.specs.Tick.{preempts_given, preempts_read, new_service, service, runs, hold, forced, at_force_off, omitted, phases_given, phase_read, rings_given, moves, moved, yellow_done, next}
use Rattle.tsb_step.specs.Signs.{watched}
use Rattle.tsb_step.specs.Step.{with_lamp, reset, step}
use Rattle.tsb_step.specs.Runs.{replay, AreTaken}
use Rattle.tsb_step.specs.Laws.{IsConsistent}
use Rattle.tsb_step.specs.Good.{IsGood}
use Rattle.tsb_step.proofs.ClipLemmas.{clipped_holds}
use Rattle.tsb_step.proofs.EventLemmas.{ended_now}
use Rattle.tsb_step.proofs.ClearLemmas.{plan_stays}
use Rattle.tsb_step.proofs.GivenLemmas.{symmetric, given}
use Rattle.tsb_step.proofs.GiveUpLemmas.{committed_by_moves}
use Rattle.tsb_step.proofs.GoodLemmas.{good_run}
use Rattle.tsb_step.proofs.RestLemmas.{rests_run}
use Rattle.tsb_step.proofs.StandLemmas.{rings_then}
use Rattle.tsb_step.proofs.WaitedLemmas.{ended_was_ready}
use Rattle.tsb_laws.specs.Stretches.{EndsGreen}
use Rattle.tsb_laws.specs.Coordination.{is_forced_off, in_permissive_time, was_forced_off, OmitsHold}
use Rattle.tsb_laws.proofs.safety.IntergreenLemmas.{good_then, turns_yellow, started_now, listed_then}
use Rattle.tsb_laws.proofs.safety.ChoiceLemmas.{pick_not_omitted, entry_not_omitted}
use Rattle.tsb_laws.proofs.safety.EnabledLemmas.{callable_not_omitted}
use Rattle.tsb_laws.proofs.safety.DueLemmas.{count_run, clipped_at}

-- ## A coordinated green that ends

pub ended_by_none : (s : State) (row : Row) (p : ℕ) → service s row ≡ None → ended_by (phases_given s row) p ≡ None
unfolding phases_given
ended_by_none s row p quiet = go ((phases_given s row).must_end p) (service s row) quiet
  where
    go : (b : Bool) (o : Option ℕ) → o ≡ None → (if b then o else None) ≡ None
    go true o e = e
    go false o e = refl

done_without : (plan : Plan) (given : Given) (p : ℕ) (w : Phase) → is_ready plan given p w ≡ true → ended_by given p ≡ None →
    may_end plan given p w ≡ true
unfolding is_ready
done_without plan given p w h none =
    let inner = and_parts (is_green w.interval) (is_dont_walk (pedestrian_now plan given p w) && green_is_done plan given p w (ended_by given p)) h in
    let ended : green_is_done plan given p w (ended_by given p) ≡ true =
    (and_parts (is_dont_walk (pedestrian_now plan given p w)) (green_is_done plan given p w (ended_by given p)) inner.1).1 in
    (and_parts (initial_has_passed plan given p (held_of w)) (may_end plan given p w) (rw none at ended)).1

latch_of : (plan : Plan) (given : Given) (p : ℕ) (w : Phase) → needs_forced given p ≡ true → may_end plan given p w ≡ true →
    forced_latch plan given p (held_of w) ≡ true
latch_of plan given p w needs ends = rw needs at ends

-- what the latch asks for besides: force-off in this tick, or in an earlier one
forced_or : (s : State) (row : Row) (p : ℕ) → ((phases_given s row).forced p || (floats_off s.plan (phases_given s row) p (held_of (phase_read s p)) || (s.phases p).forced)) ≡ true →
    (is_forced_off s row p ≡ true) ⊎ ((s.phases p).forced ≡ true)
unfolding phases_given
forced_or s row p h =
    elim (or_cases ((phases_given s row).forced p) (floats_off s.plan (phases_given s row) p (held_of (phase_read s p)) || (s.phases p).forced) h) [
      | inl k ↦ inl (or_left (forced s p) (floats_off s.plan (phases_given s row) p (held_of (phase_read s p))) (clipped_holds (forced s) p k))
      | inr k ↦ elim (or_cases (floats_off s.plan (phases_given s row) p (held_of (phase_read s p))) (s.phases p).forced k) [
        | inl l ↦ inl (or_right (forced s p) (floats_off s.plan (phases_given s row) p (held_of (phase_read s p))) l)
        | inr l ↦ inr l
      ]
    ]

-- its force-off is now, or is latched
latched_or_now : (s : State) (row : Row) (p : ℕ) → s.plan.phase_count ≤ 16 → IsListed s.plan p → is_ended (moves s row) p ≡ true →
    hold s p ≡ true → service s row ≡ None → (is_forced_off s row p ≡ true) ⊎ ((s.phases p).forced ≡ true)
unfolding phases_given
latched_or_now s row p few listed ended held quiet =
    forced_or s row p conflict.1
  where
    ends : may_end s.plan (phases_given s row) p (phase_read s p) ≡ true
    ends = done_without s.plan (phases_given s row) p (phase_read s p) (ended_was_ready s row p ended) (ended_by_none s row p quiet)

    needs : needs_forced (phases_given s row) p ≡ true
    needs = ap (λ (b : Bool). b && is_none (service s row)) (clipped_at (hold s) s.plan p few listed ∙ held) ∙ ap (λ (o : Option ℕ). is_none o) quiet

    latch : forced_latch s.plan (phases_given s row) p (held_of (phase_read s p)) ≡ true
    latch = latch_of s.plan (phases_given s row) p (phase_read s p) needs ends

    runs : (is_some (phases_given s row).runs ≡ true)
        × ((is_none (phases_given s row).service && ((phases_given s row).conflict p && ((phases_given s row).forced p || (floats_off s.plan (phases_given s row) p (held_of (phase_read s p)) || (s.phases p).forced)))) ≡ true)
    runs = and_parts (is_some (phases_given s row).runs)
        (is_none (phases_given s row).service && ((phases_given s row).conflict p && ((phases_given s row).forced p || (floats_off s.plan (phases_given s row) p (held_of (phase_read s p)) || (s.phases p).forced)))) latch

    free : (is_none (phases_given s row).service ≡ true) × (((phases_given s row).conflict p && ((phases_given s row).forced p || (floats_off s.plan (phases_given s row) p (held_of (phase_read s p)) || (s.phases p).forced))) ≡ true)
    free = and_parts (is_none (phases_given s row).service) ((phases_given s row).conflict p && ((phases_given s row).forced p || (floats_off s.plan (phases_given s row) p (held_of (phase_read s p)) || (s.phases p).forced))) runs.1

    conflict : ((phases_given s row).conflict p ≡ true) × (((phases_given s row).forced p || (floats_off s.plan (phases_given s row) p (held_of (phase_read s p)) || (s.phases p).forced)) ≡ true)
    conflict = and_parts ((phases_given s row).conflict p) ((phases_given s row).forced p || (floats_off s.plan (phases_given s row) p (held_of (phase_read s p)) || (s.phases p).forced)) free.1

-- ## A latch is of this green

latched_in_tick : (s : State) (row : Row) (p : ℕ) → ((next s row).phases p).forced ≡ true →
    (is_green (interval s p) ≡ true) × ((is_forced_off s row p ≡ true) ⊎ ((s.phases p).forced ≡ true))
unfolding phases_given
latched_in_tick s row p h =
    let both = and_parts (is_green_after (moved s row) p (phase_read s p)) (not (is_started (moves s row) p) && forced_latch s.plan (phases_given s row) p (held_of (phase_read s p))) h in
    let rest = and_parts (not (is_started (moves s row) p)) (forced_latch s.plan (phases_given s row) p (held_of (phase_read s p))) both.1 in
    let runs = and_parts (is_some (phases_given s row).runs)
    (is_none (phases_given s row).service && ((phases_given s row).conflict p && ((phases_given s row).forced p || (floats_off s.plan (phases_given s row) p (held_of (phase_read s p)) || (s.phases p).forced)))) rest.1 in
    let free = and_parts (is_none (phases_given s row).service) ((phases_given s row).conflict p && ((phases_given s row).forced p || (floats_off s.plan (phases_given s row) p (held_of (phase_read s p)) || (s.phases p).forced))) runs.1 in
    let conflict = and_parts ((phases_given s row).conflict p) ((phases_given s row).forced p || (floats_off s.plan (phases_given s row) p (held_of (phase_read s p)) || (s.phases p).forced)) free.1 in (
      green (is_started (moves s row) p) (is_green (interval s p)) refl refl both.0 rest.0,
      forced_or s row p conflict.1,
    )
  where
    green : (starts was : Bool) → is_started (moves s row) p ≡ starts → is_green (interval s p) ≡ was →
        is_green_after (moved s row) p (phase_read s p) ≡ true → not (is_started (moves s row) p) ≡ true → is_green (interval s p) ≡ true
    green true was e k x y = absurd (false≢true (rw e at y))
    green false true e k x y = k
    green false false e k x y = absurd (false≢true (rw (e, k) at x))

-- the forced latch after an input
latch_tick : (s : State) (row : Row) (p : ℕ) → (is_green (interval s p) ≡ false → (s.phases p).forced ≡ false) → ((step s (Tick row)).phases p).forced ≡ true →
    (is_green (interval s p) ≡ true) × ((is_forced_off s row p ≡ true) ⊎ ((s.phases p).forced ≡ true))
unfolding step watched
latch_tick s row p rests h = go (is_some s.trip) h
  where
    still : (s.phases p).forced ≡ true → (is_green (interval s p) ≡ true) × ((is_forced_off s row p ≡ true) ⊎ ((s.phases p).forced ≡ true))
    still k =
        elim (cases_Bool (is_green (interval s p))) [
          | inl g ↦ (g, inr k)
          | inr g ↦ absurd (true≢false (sym k ∙ rests g))
        ]

    go : (b : Bool) → ((if b then record s { now = s.now + 1 } else (if b then next s row else watched s (next s row))).phases p).forced ≡ true →
        (is_green (interval s p) ≡ true) × ((is_forced_off s row p ≡ true) ⊎ ((s.phases p).forced ≡ true))
    go true k = still k
    go false k = latched_in_tick s row p k

pub lit_latch : (s : State) (lamp : Option Lamp) (p : ℕ) → ((with_lamp lamp s).phases p).forced ≡ (s.phases p).forced
unfolding watched
lit_latch s lamp p = go (is_some s.trip)
  where
    go : (b : Bool) → ((if b then record s { lamp = lamp } else watched s (record s { lamp = lamp })).phases p).forced ≡ (s.phases p).forced
    go true = refl
    go false = refl

reset_latch : (s : State) (p : ℕ) → ((reset s).phases p).forced ≡ true → (s.phases p).forced ≡ true
reset_latch s p h = go (is_some s.trip) h
  where
    go : (b : Bool) → ((if b then restarted s else s).phases p).forced ≡ true → (s.phases p).forced ≡ true
    go true k = absurd (false≢true k)
    go false k = k

latched : (plan : Plan) (is : List Input) (p : ℕ) → ((replay plan is).phases p).forced ≡ true → was_forced_off plan p is ≡ true
unfolding step
latched plan [] p h = absurd (false≢true h)
latched plan (inputs.Tick row ∷ is) p h =
    let it = latch_tick (replay plan is) row p (rests_run plan is p).forced h in
    elim it.1 [
      | inl k ↦ rw (it.0, k) refl
      | inr k ↦ (let before : was_forced_off plan p is ≡ true = latched plan is p k in rw (it.0, before) (or_right (is_forced_off (replay plan is) row p) true refl))
    ]
latched plan (inputs.Pattern n ∷ is) p h = absurd (false≢true h)
latched plan (inputs.Fault lamp ∷ is) p h = latched plan is p (sym (lit_latch (replay plan is) lamp p) ∙ h)
latched plan (inputs.Reset ∷ is) p h = latched plan is p (reset_latch (replay plan is) p h)
latched plan (i ∷ is) p h = latched plan is p h

pub few_now : (plan : Plan) (is : List Input) → plan.phase_count ≤ 16 → (replay plan is).plan.phase_count ≤ 16
few_now plan is few = let same = count_run plan is in omega (arith, same, few)

-- a coordinated phase is forced off at its instant and in its permissive time, and neither late nor by floating
-- force-off
never_forced_late : (plan : Plan) (o at : Option ℕ) (p : ℕ) → is_coordinated_now plan o p ≡ true → is_forced_late plan o at p ≡ false
never_forced_late plan None at p h = refl
never_forced_late plan (Some n) at p h =
    let none : late_end plan (Some n) p ≡ None = rw h (go (forces_late plan)) in
    ap (λ (to : Option ℕ). is_late (cycle plan n) at (force_off plan (Some n) p) to) none ∙ never_late (cycle plan n) at (force_off plan (Some n) p)
  where
    go : (b : Bool) → (if b && false then instant_of plan n (yields_to plan n p) else None) ≡ None
    go true = refl
    go false = refl

never_floats : (plan : Plan) (o : Option ℕ) (p : ℕ) → coordinates_in plan o p ≡ true → floating_in plan o p ≡ None
never_floats plan None p h = refl
never_floats plan (Some t) p h = rw h (go (floats plan))
  where
    go : (b : Bool) → (if b && false then Some (split_green plan t p) else None) ≡ None
    go true = refl
    go false = refl

by_the_cycle : (s : State) (row : Row) (p : ℕ) → hold s p ≡ true → is_forced_off s row p ≡ true → forced s p ≡ true
unfolding phases_given
by_the_cycle s row p held h =
    elim (or_cases (forced s p) (floats_off s.plan (phases_given s row) p (held_of (phase_read s p))) h) [
      | inl k ↦ k
      | inr k ↦ absurd (false≢true (ap (λ (o : Option ℕ). has_reached_some (phase_read s p).timer o) (sym (never_floats s.plan (split_in_effect s.plan (runs s)) p held)) ∙ k))
    ]

-- a coordinated phase is forced off where the local counter is at its instant, or in its permissive time
at_instant_in : (plan : Plan) (t : ℕ) (selected : Option ℕ) (p : ℕ) → asks_hold plan selected p ≡ true → asks_force_off plan t selected p ≡ true →
    (is_at_force_off plan t selected p ≡ true) ⊎ (is_in_permissive_time plan t selected p ≡ true)
at_instant_in plan t selected p held h =
    elim (or_cases (is_at_force_off plan t selected p)
    (is_forced_late plan (running plan selected) (local plan t selected) p || is_in_permissive_time plan t selected p) h) [
      | inl k ↦ inl k
      | inr k ↦ inr (ap (λ (b : Bool). b || is_in_permissive_time plan t selected p)
          (sym (never_forced_late plan (running plan selected) (local plan t selected) p held)) ∙ k)
    ]

-- where it takes two steps in a tick, at the second or at the first of them
at_instant : (s : State) (p : ℕ) → hold s p ≡ true → forced s p ≡ true → (at_force_off s p ≡ true) ⊎ (in_permissive_time s p ≡ true)
at_instant s p held h =
    elim (or_cases (asks_force_off s.plan there s.pattern p) (twice && asks_force_off s.plan (there - 1) s.pattern p) h) [
      | inl now ↦ second (at_instant_in s.plan there s.pattern p held now)
      | inr before ↦ (let both = and_parts twice (asks_force_off s.plan (there - 1) s.pattern p) before in
          first both.0 (at_instant_in s.plan (there - 1) s.pattern p held both.1))
    ]
  where
    there : ℕ
    there = counted_tick s.plan s.pattern s.correction (s.now + 1)

    twice : Bool
    twice = steps_twice s.plan s.pattern s.correction (s.now + 1)

    second : (is_at_force_off s.plan there s.pattern p ≡ true) ⊎ (is_in_permissive_time s.plan there s.pattern p ≡ true) →
        (at_force_off s p ≡ true) ⊎ (in_permissive_time s p ≡ true)
    second (inl k) = inl (or_left (is_at_force_off s.plan there s.pattern p) (twice && is_at_force_off s.plan (there - 1) s.pattern p) k)
    second (inr k) = inr (or_left (is_in_permissive_time s.plan there s.pattern p) (twice && is_in_permissive_time s.plan (there - 1) s.pattern p) k)

    first : twice ≡ true → (is_at_force_off s.plan (there - 1) s.pattern p ≡ true) ⊎ (is_in_permissive_time s.plan (there - 1) s.pattern p ≡ true) →
        (at_force_off s p ≡ true) ⊎ (in_permissive_time s p ≡ true)
    first e (inl k) =
        inl (or_right (is_at_force_off s.plan there s.pattern p) (twice && is_at_force_off s.plan (there - 1) s.pattern p)
        (and_from twice (is_at_force_off s.plan (there - 1) s.pattern p) e k))
    first e (inr k) =
        inr (or_right (is_in_permissive_time s.plan there s.pattern p) (twice && is_in_permissive_time s.plan (there - 1) s.pattern p)
        (and_from twice (is_in_permissive_time s.plan (there - 1) s.pattern p) e k))

pub ends_by_force_off : (plan : Plan) (is : List Input) (row : Row) (p : ℕ) → IsConsistent plan → plan.phase_count ≤ 16 →
    AreTaken plan is → (replay plan is).trip ≡ None → EndsGreen plan is row p → hold (replay plan is) p ≡ true →
    service (replay plan is) row ≡ None →
    ((at_force_off (replay plan is) p ≡ true) ⊎ (in_permissive_time (replay plan is) p ≡ true)) ⊎ (was_forced_off plan p is ≡ true)
ends_by_force_off plan is row p ok few taken dark ends held quiet =
    elim (latched_or_now (replay plan is) row p (few_now plan is few)
    ((good_run plan is ok taken).rings.listed p (ap in_service ends.was_green))
    (ended_now (replay plan is) row p dark ends.was_green (turns_yellow plan is row p ok taken ends)) held quiet) [
      | inl k ↦ inl (at_instant (replay plan is) p held (by_the_cycle (replay plan is) row p held k))
      | inr k ↦ inr (latched plan is p k)
    ]

-- ## Omitted phases

pub no_target : (s : State) (row : Row) → service s row ≡ None → (rings_given s row).target ≡ None
unfolding rings_given new_service
no_target s row quiet = go (preempts.new_service s.plan (preempts_given s row) (preempts_read s)) quiet
  where
    go : (o : Option Service) → option_map (λ (x : Service). x.preempt) o ≡ None → preempts.wanted_by s.plan o ≡ None
    go None e = refl
    go (Some x) e = absurd cc

callable_is_not_omitted : (s : State) (row : Row) (p : ℕ) → (rings_given s row).callable p ≡ true → (rings_given s row).omitted p ≡ false
unfolding rings_given
callable_is_not_omitted s row p h = callable_not_omitted s row p h

picks_in : (plan : Plan) (s : rings.State) (given : rings.Given) (r : Ring) (p : ℕ) → s.commitment r ≡ None → starting plan s given r ≡ Some p →
    pick plan s given r ≡ Some p
unfolding starting
picks_in plan s given r p none h = go (serving plan given r) refl (rw none at h)
  where
    go : (o : Option ℕ) → serving plan given r ≡ o → idle_pick o (pick plan s given r) ≡ Some p → pick plan s given r ≡ Some p
    go None e k = k
    go (Some q) e k = absurd cc

ring_starts : (plan : Plan) (s : rings.State) (given : rings.Given) (p : ℕ) → is_started (ring_moves.moves plan s given) p ≡ true →
    (r : Ring) × (starting plan s given r ≡ Some p)
unfolding ring_moves.moves
ring_starts plan s given p h =
    elim (or_cases (is p (starting plan s given Ring1)) (is p (starting plan s given Ring2)) h) [
      | inl k ↦ (Ring1, is-Some p (starting plan s given Ring1) k)
      | inr k ↦ (Ring2, is-Some p (starting plan s given Ring2) k)
    ]

starts_in : (s : State) (row : Row) (p : ℕ) → is_started (moves s row) p ≡ true → (r : Ring) × (starting s.plan s.rings (rings_given s row) r ≡ Some p)
unfolding moves
starts_in s row p h = ring_starts s.plan s.rings (rings_given s row) p h

told_omitted : (s : State) (row : Row) (p : ℕ) → s.plan.phase_count ≤ 16 → IsListed s.plan p → (rings_given s row).omitted p ≡ omitted s p
unfolding rings_given
told_omitted s row p few listed = clipped_at (omitted s) s.plan p few listed

starts_committed : (s : State) (row : Row) (q : ℕ) → s.plan.phase_count ≤ 16 → IsListed s.plan q → is_started (moves s row) q ≡ true →
    omitted s q ≡ true → service s row ≡ None → (r : Ring) × (s.rings.commitment r ≡ Some q)
starts_committed s row q few listed started omits quiet =
    let it = starts_in s row q started in (it.0, go it.0 it.1 (s.rings.commitment it.0) refl)
  where
    go : (r : Ring) → starting s.plan s.rings (rings_given s row) r ≡ Some q → (o : Option ℕ) → s.rings.commitment r ≡ o → s.rings.commitment r ≡ Some q
    go r starts (Some c) e = let same : q ≡ c = starts_alone s.plan s.rings (rings_given s row) r c q e starts in e ∙ ap Some (sym same)
    go r starts None e =
        let not_omitted : (rings_given s row).omitted q ≡ false =
        pick_not_omitted s.plan (rings_given s row) (callable_is_not_omitted s row) (no_target s row quiet) s.rings r q
        (picks_in s.plan s.rings (rings_given s row) r q e starts) in
        absurd (true≢false (sym omits ∙ sym (told_omitted s row q few listed) ∙ not_omitted))

commits_committed : (s : State) (row : Row) (r : Ring) (q : ℕ) → IsGood s → s.trip ≡ None → s.plan.phase_count ≤ 16 → IsListed s.plan q →
    omitted s q ≡ true → service s row ≡ None → (step s (Tick row)).rings.commitment r ≡ Some q → s.rings.commitment r ≡ Some q
unfolding rings_given rings_next
commits_committed s row r q good dark few listed omits quiet h =
    go (commits s.plan s.rings (rings_given s row) (yellow_done s) even good.rings (given s row good) r q
    (new_commits s.plan s.rings (rings_given s row) (yellow_done s) even good.rings (given s row good) r q now).1)
  where
    even : IsSymmetric s.plan
    even = symmetric s.plan good.plan.rules

    now : new_commitment s.plan s.rings (rings_given s row) r ≡ Some q
    now = committed_by_moves s row r q (sym (ap (λ (x : rings.State). x.commitment r) (rings_then s row dark)) ∙ h)

    not_so : (rings_given s row).omitted q ≡ false → ⊥
    not_so k = true≢false (sym omits ∙ sym (told_omitted s row q few listed) ∙ k)

    go : Commits s.plan s.rings (rings_given s row) (yellow_done s) even good.rings (given s row good) r q → s.rings.commitment r ≡ Some q
    go (enters b e) = absurd (not_so (entry_not_omitted s.plan (rings_given s row) (callable_is_not_omitted s row) (no_target s row quiet) s.rings r q e))
    go (stands b e) = e
    go (makes b e) = absurd (not_so (pick_not_omitted s.plan (rings_given s row) (callable_is_not_omitted s row) (no_target s row quiet) s.rings r q e))

pub omits_hold : (plan : Plan) (is : List Input) (row : Row) (q : ℕ) → IsConsistent plan → plan.phase_count ≤ 16 →
    AreTaken plan is → (replay plan is).trip ≡ None → omitted (replay plan is) q ≡ true → service (replay plan is) row ≡ None → OmitsHold plan is row q
omits_hold plan is row q ok few taken dark omits quiet = record {
  starts = λ x. starts_committed (replay plan is) row q (few_now plan is few) (listed_then plan is row q ok taken x) (started_now plan is row q ok taken x) omits quiet;
  commits = λ r h. commits_committed (replay plan is) row r q (good_run plan is ok taken) dark (few_now plan is few) (listed_after r h) omits quiet h;
}
  where
    listed_after : (r : Ring) → (step (replay plan is) (Tick row)).rings.commitment r ≡ Some q → IsListed (replay plan is).plan q
    listed_after r h =
        rw (plan_stays (replay plan is) row) at ((good_then (replay plan is) row (good_run plan is ok taken)).rings.owned r q h).1
