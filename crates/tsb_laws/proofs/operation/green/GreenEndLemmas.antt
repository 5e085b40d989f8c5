-- Why a tick ends a green: by its gap, its maximum or its force-off, or as a preempt wants other phases. Proves
-- `greens_end_for_a_reason`.
use Rattle.std.proofs.Common.{◌≡◌, ℕ, ◌+◌, ◌≤◌, Bool, true, false, not, ◌&&◌, ◌||◌, if◌then◌else◌, min, List, Option, Some, None, is_some, is_none, refl, sym, ap, subst, arith, ◌∙◌, inl, inr, ◌⊎◌}
use Rattle.std.proofs.lemmas.Bool.{and_parts, or_cases, false≢true}
use Rattle.std.proofs.lemmas.Option.{cond_some}
use Rattle.tsb_step.specs.tsb_cells.Timer.{has_reached}
use Rattle.tsb_step.specs.tsb_types.declared.row.Row.{Row}
use Rattle.tsb_step.specs.tsb_types.Intervals.{is_green, is_dont_walk, in_service}
use Rattle.tsb_step.specs.tsb_types.Lists.{first, is}
use Rattle.tsb_step.specs.tsb_types.Sets.{is_phase}
use Rattle.tsb_step.specs.tsb_plan.Parts.{preempt_minimum_green}
use Rattle.tsb_step.specs.tsb_plan.Plan.{Plan, phases, is_enabled, side_of, disables_simultaneous_gap}
use Rattle.tsb_step.specs.tsb_plan.Running.{is_on_maximum_recall}
use Rattle.tsb_step.specs.tsb_rules.Rules.{first_broken}
use Rattle.tsb_step.proofs.tsb_rules.ConsistentLemmas.{together, is-off}
use Rattle.tsb_step.specs.tsb_calls.Memories.{counted}
use Rattle.tsb_step.specs.tsb_phase.Phase.{Phase, Given, held_of}
use Rattle.tsb_step.specs.tsb_phase.Green.{initial, gap_has_expired, gapped_latch, initial_has_passed, is_gapped, is_by_gap, conflict_timer, has_reached_some, acting_maximum, has_maxed_out, floats_off, forced_latch}
use Rattle.tsb_step.specs.tsb_phase.Pedestrian.{ended_by, pedestrian_now}
use Rattle.tsb_step.specs.tsb_phase.Ready.{needs_forced, has_timed_out, may_end, green_is_done, is_ready}
use Rattle.tsb_step.specs.tsb_preempt.Preempts as preempts
use Rattle.tsb_step.specs.tsb_ring.declared.want.Want.{Want}
use Rattle.tsb_step.specs.tsb_ring.declared.want.Want.TheVariants.{Rest}
use Rattle.tsb_step.specs.tsb_ring.Rings as rings
use Rattle.tsb_step.specs.tsb_ring.Rings.{Ring, Ring1, Ring2, own_ring, serving}
use Rattle.tsb_step.specs.tsb_ring.Wants.{is_targeted, want_by_target, want_found, is_idle_or_green, want, picked_before, want_of}
use Rattle.tsb_step.specs.tsb_ring.Crossings.{begins, side_of_or, side_sought, target_side}
use Rattle.tsb_step.specs.tsb_ring.Next.{leaves, ends}
use Rattle.tsb_step.specs.tsb_ring.Moves as moving
use Rattle.tsb_step.specs.tsb_ring.Moves.{ring_moves, is_ended}
use Rattle.tsb_step.specs.tsb_ring.Laws.{IsListed, IsPairwiseConcurrent}
use Rattle.tsb_step.proofs.tsb_ring.MoveLemmas.{passed}
use Rattle.tsb_step.proofs.tsb_ring.OwnLemmas.{own_serving}
use Rattle.tsb_step.proofs.tsb_ring.WaitLemmas.{first-passes}
use Rattle.tsb_step.proofs.tsb_ring.WantLemmas.{first-among}
use Rattle.tsb_step.specs.declared.inputs.Input.{Input}
use Rattle.tsb_step.specs.State.{State, interval}
use Rattle.tsb_step.specs.Tick.{service, target, must_end, runs, hold, conflict, phases_given, phase_read, rings_given, moves}
use Rattle.tsb_step.specs.Runs.{replay, AreTaken}
use Rattle.tsb_step.specs.Laws.{IsConsistent}
use Rattle.tsb_step.specs.Good.{IsGood}
use Rattle.tsb_step.specs.TimeLaws.{held_for}
use Rattle.tsb_step.proofs.ClipLemmas.{clipped_holds}
use Rattle.tsb_step.proofs.EventLemmas.{ended_now}
use Rattle.tsb_step.proofs.GivenLemmas.{listed_is_phase, given}
use Rattle.tsb_step.proofs.GoodLemmas.{good_run}
use Rattle.tsb_step.proofs.SideRunLemmas.{sided_run}
use Rattle.tsb_step.proofs.TellLemmas.{timers_tell_time}
use Rattle.tsb_step.proofs.WaitedLemmas.{ended_was_ready}
use Rattle.tsb_step.proofs.YellowLemmas.{lasted_by}
use Rattle.tsb_laws.specs.Stretches.{EndsGreen}
use Rattle.tsb_laws.specs.GreenEnds.{GapExpires, HasLatchedGap, IsByGap, maximum_acting, IsByMaximum, IsByForceOff, initial_of, green_for, EndsForAReason}
use Rattle.tsb_laws.proofs.safety.DueLemmas.{count_run, clipped_at}
use Rattle.tsb_laws.proofs.safety.EnabledLemmas.{callable_on, enabled_run}
use Rattle.tsb_laws.proofs.safety.IntergreenLemmas.{turns_yellow}
use Rattle.tsb_laws.proofs.safety.SideSoughtLemmas.{goes_to_other}
use Rattle.tsb_laws.proofs.safety.CoordinationLemmas.{ended_by_none}
use Rattle.tsb_laws.proofs.operation.green.GreenTimeLemmas.{expires, lasts, gapped_out, IsForced, forced_by, forced_off_now, forced_off}
use Rattle.tsb_laws.proofs.operation.preempt.PreemptEntryLemmas.{Asks, asked}
use Rattle.tsb_laws.proofs.operation.green.PressedRunLemmas.{is_one}

-- ## A phase that a preempt wants stays Green, by the rings alone

module _ (plan : Plan) (s : rings.State) (given : rings.Given) (target : ℕ → Bool) (p : ℕ) (rules : first_broken plan ≡ None) (called_on : (q : ℕ) → given.callable q ≡ true → is_enabled plan q ≡ true) (pairs : IsPairwiseConcurrent plan given.target) (wanted : given.target ≡ Some target) (listed : IsListed plan p) (is_wanted : is_targeted plan target p ≡ true) (here : side_of plan p ≡ s.side) where
  rests : (r : Ring) (picked : Option ℕ) → serving plan given r ≡ Some p → want_found plan s given r picked given.target ≡ Rest
  rests r picked serves = ap (λ (t : Option (ℕ → Bool)). want_found plan s given r picked t) wanted ∙ by_target
    where
      by_target : want_by_target plan s given r picked target ≡ Rest
      by_target = rw (serves, is_wanted) refl

  wants_rest : (r : Ring) (w : Want) → serving plan given r ≡ Some p → want_of plan s given r ≡ Some w → w ≡ Rest
  unfolding want_of want
  wants_rest r w serves h =
      sym
      (cond_some (is_none s.crossing && is_none (s.commitment r) && is_idle_or_green given (serving plan given r))
      (want_found plan s given r (picked_before plan s given r) given.target) w h).1
      ∙ rests r (picked_before plan s given r) serves

  stays_in : (r : Ring) → serving plan given r ≡ Some p → leaves (want_of plan s given r) ≡ true → ⊥
  stays_in r serves h = go (want_of plan s given r) refl h
    where
      go : (o : Option Want) → want_of plan s given r ≡ o → leaves o ≡ true → ⊥
      go None e k = false≢true k
      go (Some w) e k = false≢true (ap (λ (v : Want). leaves (Some v)) (sym (wants_rest r w serves e)) ∙ k)

  same_side : (x : ℕ) → first (is_targeted plan target) (phases plan) ≡ Some x → side_of plan x ≡ s.side
  same_side x e =
      elim (every x p (first-among (is_targeted plan target) (phases plan) x e) listed (first-passes (is_targeted plan target) (phases plan) x e) is_wanted) [
        | inl same ↦ ap (λ (y : ℕ). side_of plan y) same ∙ here
        | inr both ↦ (together plan rules x p (listed_is_phase plan x (first-among (is_targeted plan target) (phases plan) x e)) (listed_is_phase plan p listed) both).sides
            ∙ here
      ]
    where
      every : IsPairwiseConcurrent plan (Some target)
      every = subst (λ (t : Option (ℕ → Bool)). IsPairwiseConcurrent plan t) wanted pairs

  no_crossing : begins plan s given ≡ true → ⊥
  unfolding target_side
  no_crossing b = goes_to_other plan s given rules called_on pairs b (ap (λ (t : Option (ℕ → Bool)). side_sought plan s given t) wanted ∙ sought (first (is_targeted plan target) (phases plan)) refl)
    where
      sought : (o : Option ℕ) → first (is_targeted plan target) (phases plan) ≡ o → side_of_or plan o s.side ≡ s.side
      sought None e = refl
      sought (Some x) e = same_side x e

  ring_keeps : (r : Ring) → is p (ring_moves plan s given r).ends ≡ true → ⊥
  unfolding ends
  ring_keeps r h =
      let it = passed (λ q. is_green (given.interval q) && ends plan s given q) (serving plan given r) p h in
      let does = and_parts (is_green (given.interval p)) (ends plan s given p) it.1 in
      elim (or_cases (begins plan s given) (given.ready p && leaves (want_of plan s given (own_ring plan p))) does.1) [
        | inl b ↦ no_crossing b
        | inr k ↦ stays_in r it.0
            (ap (λ (x : Ring). leaves (want_of plan s given x)) (sym (own_serving plan given r p it.0))
            ∙ (and_parts (given.ready p) (leaves (want_of plan s given (own_ring plan p))) k).1)
      ]

  pub keeps_wanted : is_ended (moving.moves plan s given) p ≡ true → ⊥
  unfolding moving.moves
  keeps_wanted h =
      elim (or_cases (is p (ring_moves plan s given Ring1).ends) (is p (ring_moves plan s given Ring2).ends) h) [
        | inl k ↦ ring_keeps Ring1 k
        | inr k ↦ ring_keeps Ring2 k
      ]

-- ## Under a preempt

pub ends_unwanted : (s : State) (row : Row) (p : ℕ) → IsGood s → (list : ℕ → Bool) → target s row ≡ Some list → is_enabled s.plan p ≡ true → IsListed s.plan p →
    side_of s.plan p ≡ s.rings.side → is_ended (moves s row) p ≡ true → list p ≡ true → ⊥
unfolding moves rings_given
ends_unwanted s row p good list asks on listed here ended h =
    keeps_wanted s.plan s.rings (rings_given s row) list p good.plan.rules (callable_on s row) (given s row good).pairwise asks listed (rw (on, h) refl) here ended

must_end_now : (s : State) (row : Row) (p n : ℕ) → IsGood s → is_enabled s.plan p ≡ true → IsListed s.plan p → side_of s.plan p ≡ s.rings.side →
    is_ended (moves s row) p ≡ true → service s row ≡ Some n → must_end s row p ≡ true
must_end_now s row p n good on listed here ended h =
    let it : Asks s row = asked s row n h in
    ap (λ (o : Option (ℕ → Bool)). preempts.is_outside o p) it.is_target ∙ outside it (it.list p) refl
  where
    outside : (it : Asks s row) (b : Bool) → it.list p ≡ b → not (it.list p) ≡ true
    outside it false e = ap not e
    outside it true e = absurd (ends_unwanted s row p good it.list it.is_target on listed here ended e)

-- ## What a green that ends has been told

pub ended_by_some : (s : State) (row : Row) (p n : ℕ) → s.plan.phase_count ≤ 16 → IsListed s.plan p → must_end s row p ≡ true → service s row ≡ Some n →
    ended_by (phases_given s row) p ≡ Some n
unfolding phases_given
ended_by_some s row p n few listed must h =
    ap (λ (b : Bool). if b then service s row else None) (clipped_at (must_end s row) s.plan p few listed ∙ must) ∙ h

told_count : (s : State) (row : Row) (p : ℕ) → is_phase p ≡ true → is_green (interval s p) ≡ true → (phases_given s row).count p ≡ s.memories.count p
unfolding phases_given counted
told_count s row p on green = rw (on, green) refl

is_done : (plan : Plan) (given : Given) (p : ℕ) (w : Phase) → is_ready plan given p w ≡ true → green_is_done plan given p w (ended_by given p) ≡ true
unfolding is_ready
is_done plan given p w h =
    let inner = and_parts (is_green w.interval) (is_dont_walk (pedestrian_now plan given p w) && green_is_done plan given p w (ended_by given p)) h in
    (and_parts (is_dont_walk (pedestrian_now plan given p w)) (green_is_done plan given p w (ended_by given p)) inner.1).1

-- ## Gap, maximum and force-off

-- one of the three
data Timed (plan : Plan) (p : ℕ) (is : List Input) (row : Row) : Type 0 where
  by_gap : IsByGap plan p is row → Timed plan p is row
  by_maximum : IsByMaximum plan p is row → Timed plan p is row
  by_force_off : is_some (runs (replay plan is)) ≡ true → IsByForceOff plan p is row → Timed plan p is row

module _ (plan : Plan) (p : ℕ) (is : List Input) (row : Row) (ok : IsConsistent plan) (on : is_phase p ≡ true) (taken : AreTaken plan is) (dark : (replay plan is).trip ≡ None) (was_green : is_green (interval (replay plan is) p) ≡ true) where
  abbrev told : Given
  told = phases_given (replay plan is) row

  abbrev now : Phase
  now = phase_read (replay plan is) p

  latched : gapped_latch (replay plan is).plan told p (held_of now) ≡ true → GapExpires plan p is row ⊎ HasLatchedGap plan p is row
  unfolding phases_given
  latched h =
      let outer = and_parts (disables_simultaneous_gap (replay plan is).plan p) (told.conflict p && (((replay plan is).phases p).gapped
      || (initial_has_passed (replay plan is).plan told p (held_of now) && gap_has_expired (replay plan is).plan told p (held_of now)))) h in
      let inner = and_parts (told.conflict p) (((replay plan is).phases p).gapped
      || (initial_has_passed (replay plan is).plan told p (held_of now) && gap_has_expired (replay plan is).plan told p (held_of now))) outer.1 in
      elim (or_cases ((replay plan is).phases p).gapped
      (initial_has_passed (replay plan is).plan told p (held_of now) && gap_has_expired (replay plan is).plan told p (held_of now)) inner.1) [
        | inl k ↦ inr (record { disabled = outer.0; conflict = clipped_holds (conflict (replay plan is) row) p inner.0; before = gapped_out plan p ok on is taken dark k })
        | inr k ↦ inl (expires plan p is row on dark
            (and_parts (initial_has_passed (replay plan is).plan told p (held_of now)) (gap_has_expired (replay plan is).plan told p (held_of now)) k).1)
      ]

  gapped_now : is_gapped (replay plan is).plan told p (held_of now) ≡ true → GapExpires plan p is row ⊎ HasLatchedGap plan p is row
  gapped_now h =
      elim (or_cases (gap_has_expired (replay plan is).plan told p (held_of now)) (gapped_latch (replay plan is).plan told p (held_of now)) h) [
        | inl k ↦ inl (expires plan p is row on dark k)
        | inr k ↦ latched k
      ]

  runs_told : told.runs ≡ runs (replay plan is)
  unfolding phases_given
  runs_told = refl

  gap_ends : is_by_gap (replay plan is).plan told p (is_gapped (replay plan is).plan told p (held_of now)) ≡ true → IsByGap plan p is row
  gap_ends h =
      let both = and_parts (is_gapped (replay plan is).plan told p (held_of now)) (not (is_on_maximum_recall (replay plan is).plan told.runs p)) h in
      record {
        free = ap (λ (o : Option ℕ). is_on_maximum_recall (replay plan is).plan o p) (sym runs_told)
            ∙ is-off (is_on_maximum_recall (replay plan is).plan told.runs p) both.1;
        gapped = gapped_now both.0;
      }

  maximum_ends : has_maxed_out (replay plan is).plan told p (held_of now) now.running_maximum ≡ true → IsByMaximum plan p is row
  maximum_ends h =
      go (maximum_acting (replay plan is) p) refl
      (ap (λ (o : Option ℕ). has_reached_some (conflict_timer told p (held_of now)) (acting_maximum (replay plan is).plan o p ((replay plan is).phases p).running_maximum)) (sym runs_told) ∙ h)
    where
      go : (o : Option ℕ) → maximum_acting (replay plan is) p ≡ o → has_reached_some (conflict_timer told p (held_of now)) o ≡ true → IsByMaximum plan p is row
      go None e k = absurd (false≢true k)
      go (Some limit) e k = let it = lasts plan p is row limit dark k in record { maximum = limit; acts = e; conflict = it.0; long = it.1 }

  force_off_ends : forced_latch (replay plan is).plan told p (held_of now) ≡ true → (is_some (runs (replay plan is)) ≡ true) × IsByForceOff plan p is row
  force_off_ends h =
      let it : IsForced (replay plan is) row p = forced_by (replay plan is) row p h in (
        ap (λ (o : Option ℕ). is_some o) (sym runs_told) ∙ (and_parts (is_some told.runs)
            (is_none told.service && (told.conflict p && (told.forced p || (floats_off (replay plan is).plan told p (held_of now) || ((replay plan is).phases p).forced)))) h).0,
        record {
          conflict = it.conflict;
          forced = elim it.since [
            | inl k ↦ inl (forced_off_now plan is row p ok taken dark was_green k)
            | inr k ↦ inr (forced_off plan p ok is taken dark k)
          ];
        },
      )

  timed : may_end (replay plan is).plan told p now ≡ true → Timed plan p is row
  timed h = go (needs_forced told p) h
    where
      forces : forced_latch (replay plan is).plan told p (held_of now) ≡ true → Timed plan p is row
      forces k = let it = force_off_ends k in by_force_off it.0 it.1

      go : (b : Bool) → (if b then forced_latch (replay plan is).plan told p (held_of now) else has_timed_out (replay plan is).plan told p now) ≡ true → Timed plan p is row
      go true k = forces k
      go false k =
          elim (or_cases (is_by_gap (replay plan is).plan told p (is_gapped (replay plan is).plan told p (held_of now)))
          (has_maxed_out (replay plan is).plan told p (held_of now) now.running_maximum || forced_latch (replay plan is).plan told p (held_of now)) k) [
            | inl l ↦ by_gap (gap_ends l)
            | inr l ↦ elim (or_cases (has_maxed_out (replay plan is).plan told p (held_of now) now.running_maximum) (forced_latch (replay plan is).plan told p (held_of now)) l) [
              | inl m ↦ by_maximum (maximum_ends m)
              | inr m ↦ forces m
            ]
          ]

  -- of a coordinated phase, its force-off alone
  held_ends : needs_forced told p ≡ true → may_end (replay plan is).plan told p now ≡ true → IsByForceOff plan p is row
  held_ends needs h = (force_off_ends (rw needs at h)).1

in_free : (plan : Plan) (p : ℕ) (is : List Input) (row : Row) → runs (replay plan is) ≡ None → Timed plan p is row → IsByGap plan p is row ⊎ IsByMaximum plan p is row
in_free plan p is row none (by_gap k) = inl k
in_free plan p is row none (by_maximum k) = inr k
in_free plan p is row none (by_force_off e k) = absurd (false≢true (ap (λ (o : Option ℕ). is_some o) (sym none) ∙ e))

in_pattern : (plan : Plan) (p : ℕ) (is : List Input) (row : Row) (n : ℕ) → runs (replay plan is) ≡ Some n → Timed plan p is row →
    IsByGap plan p is row ⊎ (IsByMaximum plan p is row ⊎ IsByForceOff plan p is row)
in_pattern plan p is row n runs_n (by_gap k) = inl k
in_pattern plan p is row n runs_n (by_maximum k) = inr (inl k)
in_pattern plan p is row n runs_n (by_force_off e k) = inr (inr k)

-- ## All of it

module _ (plan : Plan) (is : List Input) (row : Row) (p : ℕ) (ok : IsConsistent plan) (few : plan.phase_count ≤ 16) (taken : AreTaken plan is) (dark : (replay plan is).trip ≡ None) (x : EndsGreen plan is row p) where
  good : IsGood (replay plan is)
  good = good_run plan is ok taken

  few_now : (replay plan is).plan.phase_count ≤ 16
  few_now = let same = count_run plan is in omega (arith, same, few)

  serves : in_service (interval (replay plan is) p) ≡ true
  serves = ap in_service x.was_green

  green : is_green (interval (replay plan is) p) ≡ true
  green = ap is_green x.was_green

  listed : IsListed (replay plan is).plan p
  listed = good.rings.listed p serves

  on : is_phase p ≡ true
  on = is_one (replay plan is).plan p few_now listed

  ended : is_ended (moves (replay plan is) row) p ≡ true
  ended = ended_now (replay plan is) row p dark x.was_green (turns_yellow plan is row p ok taken x)

  done : green_is_done (replay plan is).plan (phases_given (replay plan is) row) p (phase_read (replay plan is) p)
      (ended_by (phases_given (replay plan is) row) p) ≡ true
  done = is_done (replay plan is).plan (phases_given (replay plan is) row) p (phase_read (replay plan is) p) (ended_was_ready (replay plan is) row p ended)

  freely : service (replay plan is) row ≡ None →
      (initial_has_passed (replay plan is).plan (phases_given (replay plan is) row) p (held_of (phase_read (replay plan is) p)) ≡ true)
      × (may_end (replay plan is).plan (phases_given (replay plan is) row) p (phase_read (replay plan is) p) ≡ true)
  freely alone =
      and_parts (initial_has_passed (replay plan is).plan (phases_given (replay plan is) row) p (held_of (phase_read (replay plan is) p)))
      (may_end (replay plan is).plan (phases_given (replay plan is) row) p (phase_read (replay plan is) p))
      (ap (λ (o : Option ℕ). green_is_done (replay plan is).plan (phases_given (replay plan is) row) p (phase_read (replay plan is) p) o)
      (sym (ended_by_none (replay plan is) row p alone)) ∙ done)

  why : service (replay plan is) row ≡ None → Timed plan p is row
  why alone = timed plan p is row ok on taken dark green (freely alone).1

  -- the green timer tells for how long it has been Green
  long : (limit : ℕ) → has_reached (phase_read (replay plan is) p).timer limit ≡ true → limit ≤ green_for plan p is
  long limit h =
      let told = (timers_tell_time plan is ok taken dark p).green x.was_green in
      let reached : limit ≤ held_for (λ s. is_green (interval s p)) plan is + 1 =
      lasted_by ((replay plan is).phases p).timer (held_for (λ s. is_green (interval s p)) plan is) limit told h in
      omega (arith, reached)

  same_initial : initial (replay plan is).plan p ((phases_given (replay plan is) row).count p) ≡ initial_of (replay plan is) p
  same_initial = ap (λ (n : ℕ). initial (replay plan is).plan p n) (told_count (replay plan is) row p on green)

  must : (n : ℕ) → service (replay plan is) row ≡ Some n → must_end (replay plan is) row p ≡ true
  must n h =
      must_end_now (replay plan is) row p n good ((enabled_run plan is ok taken).serves p serves) listed ((sided_run plan is ok taken).serves p serves) ended h

  needs : service (replay plan is) row ≡ None → hold (replay plan is) p ≡ true → needs_forced (phases_given (replay plan is) row) p ≡ true
  unfolding phases_given
  needs alone held =
      ap (λ (b : Bool). b && is_none (service (replay plan is) row)) (clipped_at (hold (replay plan is)) (replay plan is).plan p few_now listed ∙ held)
      ∙ ap (λ (o : Option ℕ). is_none o) alone

  pub ends_for_a_reason : EndsForAReason plan p is row
  ends_for_a_reason = record {
    initial = λ alone. subst (λ (n : ℕ). n ≤ green_for plan p is) same_initial
        (long (initial (replay plan is).plan p ((phases_given (replay plan is) row).count p)) (freely alone).0);
    free = λ alone none. in_free plan p is row none (why alone);
    pattern = λ n alone runs_n. in_pattern plan p is row n runs_n (why alone);
    coordinated = λ alone held. held_ends plan p is row ok on taken dark green (needs alone held) (freely alone).1;
    preempted = must;
    entered = λ n h. subst (λ (m : ℕ). min m (preempt_minimum_green (replay plan is).plan n) ≤ green_for plan p is) same_initial
        (long (min (initial (replay plan is).plan p ((phases_given (replay plan is) row).count p)) (preempt_minimum_green (replay plan is).plan n))
        (ap (λ (o : Option ℕ). green_is_done (replay plan is).plan (phases_given (replay plan is) row) p (phase_read (replay plan is) p) o)
        (sym (ended_by_some (replay plan is) row p n few_now listed (must n h) h)) ∙ done));
  }
