-- When a phase walks again within its green; and such a walk in a run: until its phase is forced off it stays Green,
-- and its walk and its pedestrian clearance are over by then. Proves `recycled_calls_walk` and
-- `recycled_walks_end_in_time`.
use Rattle.std.proofs.Common.{◌≡◌, ℕ, ◌+◌, ◌-◌, ◌<◌, ◌≤◌, Bool, true, false, not, ◌&&◌, ◌||◌, if◌then◌else◌, List, [], ◌∷◌, ◌++◌, Option, Some, None, is_some, is_none, refl, sym, ap, arith, ◌∙◌, inl, inr}
use Rattle.std.proofs.lemmas.Bool.{and_parts, and_from, cases_Bool, true≢false, false≢true}
use Rattle.tsb_step.specs.tsb_cells.declared.timer.Timer.{Timer}
use Rattle.tsb_step.specs.tsb_types.declared.interval.Interval.TheVariants.{Green}
use Rattle.tsb_step.specs.tsb_types.declared.interval.PedestrianInterval.{PedestrianInterval}
use Rattle.tsb_step.specs.tsb_types.declared.interval.PedestrianInterval.TheVariants.{DontWalk, Walk}
use Rattle.tsb_step.specs.tsb_types.declared.row.Row.{Row}
use Rattle.tsb_step.specs.tsb_types.Flow.{gives_walk}
use Rattle.tsb_step.specs.tsb_types.Intervals.{is_green, is_dont_walk, in_service}
use Rattle.tsb_step.specs.tsb_types.Sets.{is_phase}
use Rattle.tsb_step.specs.tsb_plan.Parts.{floats}
use Rattle.tsb_step.specs.tsb_plan.Plan.{Plan, walk, pedestrian_clear, rests_in_walk}
use Rattle.tsb_step.specs.tsb_plan.Running.{split_in_effect, coordinates_in, is_coordinated_now, split_green, floating_in, floating_time}
use Rattle.tsb_step.specs.tsb_coord.Coordinated.{asks_hold}
use Rattle.tsb_step.specs.tsb_coord.Correction.{forces}
use Rattle.tsb_step.specs.tsb_calls.Memories.{Memories}
use Rattle.tsb_step.specs.tsb_calls.Settled.{walk_starts}
use Rattle.tsb_step.specs.tsb_phase.Phase.{Phase, held_of}
use Rattle.tsb_step.specs.tsb_phase.Green.{initial_has_passed, has_reached_some, floats_off, forced_latch}
use Rattle.tsb_step.specs.tsb_phase.Pedestrian.{ended_by, is_resting_in_walk, may_walk_again, pedestrian_now, walks_again, pedestrian_timer_in}
use Rattle.tsb_step.specs.tsb_phase.Ready.{needs_forced, has_timed_out, may_end, green_is_done, is_ready}
use Rattle.tsb_step.specs.tsb_ring.Moves.{is_ended, is_started}
use Rattle.tsb_step.specs.declared.inputs.Input.{Input}
use Rattle.tsb_step.specs.declared.inputs.Input.TheVariants as inputs
use Rattle.tsb_step.specs.declared.inputs.Input.TheVariants.{Tick}
use Rattle.tsb_step.specs.State.{State, Tripped, interval, pedestrian_part}
use Rattle.tsb_step.specs.Tick.{service, runs, hold, forced, recycle, conflict, set, pedestrian_call, phases_given, phase_read, moves, done, ready, next}
use Rattle.tsb_step.specs.Step.{step}
use Rattle.tsb_step.specs.Runs.{replay, AreTaken}
use Rattle.tsb_step.specs.Laws.{IsConsistent}
use Rattle.tsb_step.specs.Good.{IsGood}
use Rattle.tsb_step.specs.TimeLaws.{is_tick}
use Rattle.tsb_step.proofs.ClearLemmas.{phases_then, one_later, plan_stays, pattern_stays, correction_stays}
use Rattle.tsb_step.proofs.GoodLemmas.{good_run}
use Rattle.tsb_step.proofs.TellLemmas.{starts_no_green}
use Rattle.tsb_step.proofs.WaitedLemmas.{ended_was_ready}
use Rattle.tsb_step.proofs.tsb_rules.ConsistentLemmas.{is-off}
use Rattle.tsb_laws.specs.Stretches.{IsUntripped}
use Rattle.tsb_laws.specs.CoordinatedGreens.{HasGoneOn, is_pressed_in_pattern}
use Rattle.tsb_laws.specs.RecycledWalks.{WalksAgain, MayWalkAgain, RecyclesCalls, is_unheld, is_unforced, IsOverByForceOff}
use Rattle.tsb_laws.proofs.safety.StretchLemmas.{dark_now, taken_before}
use Rattle.tsb_laws.proofs.safety.DueLemmas.{count_run}
use Rattle.tsb_laws.proofs.safety.CoordinationLemmas.{ended_by_none}
use Rattle.tsb_laws.proofs.operation.step.TickLemmas.{memories_then, phases_rest}
use Rattle.tsb_laws.proofs.operation.step.PhaseTimeLemmas.{walking_in, IsTimed}
use Rattle.tsb_laws.proofs.operation.green.WalkTimeLemmas.{stays_dark, walks_down, walks_no_more}
use Rattle.tsb_laws.proofs.operation.green.PressedRunLemmas.{timed_run, is_one}
use Rattle.tsb_laws.proofs.operation.pattern.CoordinatedCallLemmas.{held_runs}
use Rattle.tsb_laws.proofs.operation.pattern.InStepLemmas.{same_forces}
use Rattle.tsb_laws.proofs.operation.pattern.CoordinatedForceLemmas.{ready_at_once}
use Rattle.tsb_laws.proofs.operation.pattern.CoordinatedRunLemmas.{Leaves, leaves}
use Rattle.tsb_laws.proofs.operation.recycle.RecycleTimeLemmas.{IsRecycled, recycled_so, recycled_by, fits_to}
use Rattle.tsb_laws.proofs.operation.recycle.RecycledTickLemmas.{IsWalked, called_walks, Again, again_parts, part_goes_on, part_ends, again_walks}
use Rattle.tsb_step.proofs.EventLemmas.{none-of}

-- ## When it walks again

-- all that a walk within a green asks for
all_hold : (a b c d e : Bool) → a ≡ true → b ≡ true → c ≡ true → d ≡ true → e ≡ false → (a && (b && (c && (d && not e)))) ≡ true
all_hold a b c d e h i j k l = rw (h, i, j, k, l) refl

module _ (s : State) (row : Row) (p : ℕ) (good : IsGood s) (few : s.plan.phase_count ≤ 16) where
  green_on : interval s p ≡ Green → is_phase p ≡ true
  green_on green = is_one s.plan p few (good.rings.listed p (ap in_service green))

  may_so : MayWalkAgain s row p → walks_again (phases_given s row) p (phase_read s p) ≡ true
  unfolding phases_given
  may_so it =
      all_hold (is_dont_walk (pedestrian_part s p)) (is_green (interval s p)) ((phases_given s row).recycle p)
      (gives_walk ((phases_given s row).pedestrian_call p) (service s row)) ((s.phases p).forced && (phases_given s row).conflict p)
      (ap is_dont_walk it.dont_walk) (ap is_green it.green)
      (and_from (is_phase p) (recycle s p) on (recycled_by s p good walked.enabled walked.long (record { recycles = it.recycles; coordinated = it.coordinated; in_step = it.in_step; fits = it.fits })))
      (and_from ((phases_given s row).pedestrian_call p) (is_none (service s row)) (and_from (is_phase p) (pedestrian_call s row p) on it.called) (ap is_none it.quiet))
      (ap (λ (b : Bool). (s.phases p).forced && (b && conflict s row p)) on ∙ it.unforced)
    where
      on : is_phase p ≡ true
      on = green_on it.green

      walked : IsWalked s.plan p
      walked = called_walks s row p it.called

  may_again : pedestrian_part s p ≡ DontWalk → pedestrian_now s.plan (phases_given s row) p (phase_read s p) ≡ Walk →
      walks_again (phases_given s row) p (phase_read s p) ≡ true
  unfolding pedestrian_now
  may_again dark h = go (may_walk_again (phases_given s row) p (phase_read s p)) refl
    where
      go : (b : Bool) → may_walk_again (phases_given s row) p (phase_read s p) ≡ b → walks_again (phases_given s row) p (phase_read s p) ≡ true
      go true e = and_from (is_dont_walk (pedestrian_part s p)) (may_walk_again (phases_given s row) p (phase_read s p)) (ap is_dont_walk dark) e
      go false e = let bad : DontWalk ≡ Walk = rw (dark, e) at h in absurd cc

  walked_again : s.trip ≡ None → WalksAgain s row p → walks_again (phases_given s row) p (phase_read s p) ≡ true
  walked_again dark it = may_again it.dont_walk (sym (part_goes_on s row p good it.green goes_on) ∙ now)
    where
      now : pedestrian_part (next s row) p ≡ Walk
      now = sym (ap (λ (f : ℕ → Phase). (f p).pedestrian) (phases_then s row dark)) ∙ it.walks

      goes_on : is_ended (moves s row) p ≡ false
      goes_on =
          elim (cases_Bool (is_ended (moves s row) p)) [
            | inl k ↦ (let bad : DontWalk ≡ Walk = sym (part_ends s row p good it.green k) ∙ now in absurd cc)
            | inr k ↦ k
          ]

  so_may : Again s row p → MayWalkAgain s row p
  unfolding phases_given
  so_may it =
      let asked : IsRecycled s p = recycled_so s p good it.recycled in
      record {
        recycles = asked.recycles;
        coordinated = asked.coordinated;
        green = it.green;
        dont_walk = it.dark;
        called = it.called;
        quiet = it.quiet;
        unforced = sym (ap (λ (b : Bool). (s.phases p).forced && (b && conflict s row p)) it.on) ∙ it.unforced;
        in_step = asked.in_step;
        fits = asked.fits;
      }

  call_is_served : s.trip ≡ None → walks_again (phases_given s row) p (phase_read s p) ≡ true → is_phase p ≡ true →
      (step s (Tick row)).memories.pedestrian p ≡ false
  call_is_served dark again on = ap (λ (m : Memories). m.pedestrian p) (memories_then s row dark) ∙ falls ((set s row).pedestrian p)
      (walk_starts (done s row) (pedestrian_call s row) p) starts
    where
      starts : walk_starts (done s row) (pedestrian_call s row) p ≡ true
      starts = last (is_started (moves s row) p && gives_walk (pedestrian_call s row p) (service s row)) ((done s row).walks p) (and_from (is_phase p) (walks_again (phases_given s row) p (phase_read s p)) on again)
        where
          last : (a b : Bool) → b ≡ true → (a || b) ≡ true
          last true b h = refl
          last false b h = h

      falls : (m w : Bool) → w ≡ true → (m && not w) ≡ false
      falls true w h = rw h refl
      falls false w h = refl

  pub recycles_calls : s.trip ≡ None → RecyclesCalls s row p
  recycles_calls dark = record {
    walks = λ it. record { green = it.green; dont_walk = it.dont_walk; walks = again_walks s row p good dark (again_parts s row p (may_so it)) };
    only = λ it. so_may (again_parts s row p (walked_again dark it));
    served = λ it. call_is_served dark (walked_again dark it) (green_on it.green);
  }

-- ## Until it is forced off

-- no floating force-off comes to a coordinated phase
floats_never : (plan : Plan) (o : Option ℕ) (p : ℕ) (t : Timer) → is_coordinated_now plan o p ≡ true → has_reached_some t (floating_time plan o p) ≡ false
floats_never plan o p t h = go (split_in_effect plan o) h
  where
    go : (table : Option ℕ) → coordinates_in plan table p ≡ true → has_reached_some t (floating_in plan table p) ≡ false
    go None k = refl
    go (Some n) k = ap (λ (b : Bool). has_reached_some t (if floats plan && not b then Some (split_green plan n p) else None)) k ∙ off (floats plan)
      where
        off : (b : Bool) → has_reached_some t (if b && false then Some (split_green plan n p) else None) ≡ false
        off true = refl
        off false = refl

-- what its pedestrians still take is over by each tick in which p is forced off
abbrev IsOverBy : State → ℕ → Type 0
IsOverBy s p = (f : ℕ) → s.now < f → forces s.plan s.pattern s.correction f p ≡ true →
    walking_in (walk s.plan p) (pedestrian_clear s.plan p) (s.phases p).pedestrian_timer (s.phases p).pedestrian ≤ f - (s.now + 1)

-- p is Green and coordinated, its force-off has not come, and its walk is over by then
record GoesOn (s : State) (p : ℕ) : Type 0 where
  green : interval s p ≡ Green
  held : hold s p ≡ true
  unlatched : (s.phases p).forced ≡ false
  over : IsOverBy s p

module _ (s : State) (row : Row) (p : ℕ) (good : IsGood s) (few : s.plan.phase_count ≤ 16) (dark : s.trip ≡ None) (green : interval s p ≡ Green) (held : hold s p ≡ true)
    (quiet : service s row ≡ None) (unforced : ((s.phases p).forced && (phases_given s row).conflict p) ≡ false) (not_now : forced s p ≡ false) where
  latch_off : forced_latch s.plan (phases_given s row) p (held_of (phase_read s p)) ≡ false
  unfolding phases_given
  latch_off = go (is_phase p) (conflict s row p) (s.phases p).forced (is_some (runs s)) (is_none (service s row)) (forced s p) not_now
      (floats_off s.plan (phases_given s row) p (held_of (phase_read s p))) (floats_never s.plan (runs s) p (phase_read s p).timer held) unforced
    where
      go : (on c l r q f : Bool) → f ≡ false → (u : Bool) → u ≡ false → (l && (on && c)) ≡ false → (r && (q && ((on && c) && ((on && f) || (u || l))))) ≡ false
      go true true true r q f h u k m = absurd (true≢false m)
      go true true false true true f h u k m = rw (h, k) refl
      go true true false true false f h u k m = refl
      go true true false false q f h u k m = refl
      go true false l true true f h u k m = refl
      go true false l true false f h u k m = refl
      go true false l false q f h u k m = refl
      go false c l true true f h u k m = refl
      go false c l true false f h u k m = refl
      go false c l false q f h u k m = refl

  ends_by_none : ended_by (phases_given s row) p ≡ None
  ends_by_none = ended_by_none s row p quiet

  on_here : is_phase p ≡ true
  on_here = green_on s row p good few green

  needs : needs_forced (phases_given s row) p ≡ true
  unfolding phases_given
  needs = and_from ((phases_given s row).hold p) (is_none (service s row)) (and_from (is_phase p) (hold s p) on_here held) (ap is_none quiet)

  latched_if : ready s row p ≡ true → forced_latch s.plan (phases_given s row) p (held_of (phase_read s p)) ≡ true
  unfolding is_ready
  latched_if h =
      let all = and_parts (is_green (interval s p)) (is_dont_walk (pedestrian_now s.plan (phases_given s row) p (phase_read s p))
      && green_is_done s.plan (phases_given s row) p (phase_read s p) (ended_by (phases_given s row) p)) h in
      let rest = and_parts (is_dont_walk (pedestrian_now s.plan (phases_given s row) p (phase_read s p)))
      (green_is_done s.plan (phases_given s row) p (phase_read s p) (ended_by (phases_given s row) p)) all.1 in
      let so : green_is_done s.plan (phases_given s row) p (phase_read s p) None ≡ true =
      sym (ap (λ (o : Option ℕ). green_is_done s.plan (phases_given s row) p (phase_read s p) o) ends_by_none) ∙ rest.1 in
      let end = and_parts (initial_has_passed s.plan (phases_given s row) p (held_of (phase_read s p))) (may_end s.plan (phases_given s row) p (phase_read s p)) so in
      sym (ap (λ (b : Bool). if b then forced_latch s.plan (phases_given s row) p (held_of (phase_read s p)) else has_timed_out s.plan (phases_given s row) p (phase_read s p)) needs) ∙ end.1

  stays_green : is_ended (moves s row) p ≡ false
  stays_green =
      elim (cases_Bool (is_ended (moves s row) p)) [
        | inl k ↦ absurd (false≢true (sym latch_off ∙ latched_if (ended_was_ready s row p k)))
        | inr k ↦ k
      ]

  no_start : is_started (moves s row) p ≡ false
  no_start =
      elim (cases_Bool (is_started (moves s row) p)) [
        | inl k ↦ absurd (true≢false (sym (ap is_green green) ∙ starts_no_green s row p good k))
        | inr k ↦ k
      ]

  abbrev after : Phase
  after = (step s (Tick row)).phases p

  after_is : after ≡ (next s row).phases p
  after_is = ap (λ (f : ℕ → Phase). f p) (phases_then s row dark)

  -- so many ticks its pedestrians take then
  abbrev takes : Timer → PedestrianInterval → ℕ
  takes t x = walking_in (walk s.plan p) (pedestrian_clear s.plan p) t x

  abbrev then_takes : ℕ
  then_takes = takes (pedestrian_timer_in (pedestrian_part s p) (pedestrian_now s.plan (phases_given s row) p (phase_read s p)) (phase_read s p).pedestrian_timer)
      (pedestrian_now s.plan (phases_given s row) p (phase_read s p))

  takes_then : takes after.pedestrian_timer after.pedestrian ≡ then_takes
  takes_then =
      let part : ((next s row).phases p).pedestrian ≡ pedestrian_now s.plan (phases_given s row) p (phase_read s p) = rw (no_start, green, stays_green) refl in
      let timer : ((next s row).phases p).pedestrian_timer
      ≡ pedestrian_timer_in (pedestrian_part s p) (pedestrian_now s.plan (phases_given s row) p (phase_read s p)) (phase_read s p).pedestrian_timer =
      rw (no_start, green, stays_green) refl in
      ap (λ (x : Phase). takes x.pedestrian_timer x.pedestrian) after_is
      ∙ (ap (λ (t : Timer). takes t ((next s row).phases p).pedestrian) timer
      ∙ ap (λ (x : PedestrianInterval). takes (pedestrian_timer_in (pedestrian_part s p) (pedestrian_now s.plan (phases_given s row) p (phase_read s p)) (phase_read s p).pedestrian_timer) x) part)

  -- a walk that begins takes no longer than up to the next force-off
  begun_takes : Again s row p → (f : ℕ) → s.now < f → forces s.plan s.pattern s.correction f p ≡ true → then_takes ≤ f - (s.now + 1) - 1
  begun_takes it f later comes =
      let fits = fits_to s p f good it.recycled later comes in
      let least = it.long in
      let same = ap (λ (x : PedestrianInterval). takes (pedestrian_timer_in (pedestrian_part s p) x (phase_read s p).pedestrian_timer) x) it.now in
      let begun = ap (λ (x : PedestrianInterval). takes (pedestrian_timer_in x Walk (phase_read s p).pedestrian_timer) Walk) it.dark in
      omega (arith, fits, least, same, begun)

  -- what the tick makes of it, if its pedestrians take so long then
  goes_on_then : ((f : ℕ) → s.now + 1 < f → forces s.plan s.pattern s.correction f p ≡ true → then_takes ≤ f - (s.now + 1) - 1) → GoesOn (step s (Tick row)) p
  goes_on_then short = record {
    green = ap (λ (x : Phase). x.interval) after_is ∙ rw (no_start, green, stays_green) refl;
    held = ap (λ (x : Plan). asks_hold x (step s (Tick row)).pattern p) (plan_stays s row) ∙ (ap (λ (o : Option ℕ). asks_hold s.plan o p) (pattern_stays s row) ∙ held);
    unlatched = ap (λ (x : Phase). x.forced) after_is ∙ rw (no_start, green, stays_green) latch_off;
    over = over;
  }
    where
      over : IsOverBy (step s (Tick row)) p
      over f later comes =
          let now : (step s (Tick row)).now ≡ s.now + 1 = one_later s row in
          let comes_then : forces s.plan s.pattern s.correction f p ≡ true =
          sym (same_forces (step s (Tick row)).plan s.plan (step s (Tick row)).pattern s.pattern (step s (Tick row)).correction s.correction f p
          (plan_stays s row) (pattern_stays s row) (correction_stays s row)) ∙ comes in
          let less = short f (omega (arith, now, later)) comes_then in
          let same = ap (λ (x : Plan). walking_in (walk x p) (pedestrian_clear x p) after.pedestrian_timer after.pedestrian) (plan_stays s row) in
          let takes = takes_then in
          omega (arith, now, less, same, takes)

-- ## The tick in which it begins, and those after it

-- no preempt is in service, and p does not rest in walk
record Unheld (s : State) (row : Row) (p : ℕ) : Type 0 where
  quiet : service s row ≡ None
  awake : (rests_in_walk s.plan p && not (conflict s row p)) ≡ false

unheld_parts : (s : State) (row : Row) (p : ℕ) → is_unheld s row p ≡ true → Unheld s row p
unheld_parts s row p h = record { quiet = none-of (service s row) both.0; awake = is-off (rests_in_walk s.plan p && not (conflict s row p)) both.1 }
  where
    both : (is_none (service s row) ≡ true) × (not (rests_in_walk s.plan p && not (conflict s row p)) ≡ true)
    both = and_parts (is_none (service s row)) (not (rests_in_walk s.plan p && not (conflict s row p))) h

awake_told : (s : State) (row : Row) (p : ℕ) → is_phase p ≡ true → (rests_in_walk s.plan p && not (conflict s row p)) ≡ false →
    is_resting_in_walk s.plan (phases_given s row) p ≡ false
unfolding phases_given
awake_told s row p on h =
    ap (λ (b : Bool). rests_in_walk s.plan p && (not (b && conflict s row p) && is_none (ended_by (phases_given s row) p))) on
    ∙ go (rests_in_walk s.plan p) (not (conflict s row p)) (is_none (ended_by (phases_given s row) p)) h
  where
    go : (a b c : Bool) → (a && b) ≡ false → (a && (b && c)) ≡ false
    go true true c k = absurd (true≢false k)
    go true false c k = refl
    go false b c k = refl

module _ (s : State) (row : Row) (p : ℕ) (good : IsGood s) (few : s.plan.phase_count ≤ 16) (dark : s.trip ≡ None) where
  begins : Again s row p → GoesOn (step s (Tick row)) p
  begins it =
      goes_on_then s row p good few dark it.green (recycled_so s p good it.recycled).coordinated it.quiet it.unforced it.not_now
      (λ f later comes. begun_takes s row p good few dark it.green (recycled_so s p good it.recycled).coordinated it.quiet it.unforced it.not_now it f (omega (arith, later)) comes)

  still_unforced : GoesOn s p → ((s.phases p).forced && (phases_given s row).conflict p) ≡ false
  still_unforced it = ap (λ (b : Bool). b && (phases_given s row).conflict p) it.unlatched

  -- a tick in which it is not forced off yet
  goes_on : IsTimed (s.phases p) → GoesOn s p → Unheld s row p → forced s p ≡ false → GoesOn (step s (Tick row)) p
  goes_on timed it free not_now = goes_on_then s row p good few dark it.green it.held free.quiet (still_unforced it) not_now short
    where
      short : (f : ℕ) → s.now + 1 < f → forces s.plan s.pattern s.correction f p ≡ true →
          then_takes s row p good few dark it.green it.held free.quiet (still_unforced it) not_now ≤ f - (s.now + 1) - 1
      short f later comes = go (walks_again (phases_given s row) p (phase_read s p)) refl
        where
          go : (w : Bool) → walks_again (phases_given s row) p (phase_read s p) ≡ w →
              then_takes s row p good few dark it.green it.held free.quiet (still_unforced it) not_now ≤ f - (s.now + 1) - 1
          go true again =
              begun_takes s row p good few dark it.green it.held free.quiet (still_unforced it) not_now (again_parts s row p again) f (omega (arith, later)) comes
          go false again =
              let less = walks_down s.plan (phases_given s row) p (phase_read s p) None (ends_by_none s row p good few dark it.green it.held free.quiet (still_unforced it) not_now)
              (awake_told s row p (green_on s row p good few it.green) free.awake) (stays_dark (phases_given s row) p (phase_read s p) again) (walk s.plan p) (pedestrian_clear s.plan p) (omega arith) (omega arith)
              (s.phases p).pedestrian_timer refl timed.walk timed.clearance in
              let was = it.over f (omega (arith, later)) comes in
              omega (arith, less, was)

  -- and that in which it is
  makes_way : IsTimed (s.phases p) → GoesOn s p → Unheld s row p → forced s p ≡ true → IsOverByForceOff s row p
  makes_way timed it free comes = record {
    green = it.green;
    dont_walk = still;
    may_end = λ pressed long. ready_at_once s row p (s.now + 1) on pressed running free.quiet comes refl it.green long still;
  }
    where
      on : is_phase p ≡ true
      on = green_on s row p good few it.green

      running : is_some (runs s) ≡ true
      running = let some = held_runs s p it.held in ap is_some some.1

      ends : ended_by (phases_given s row) p ≡ None
      ends = ended_by_none s row p free.quiet

      none_again : walks_again (phases_given s row) p (phase_read s p) ≡ false
      none_again =
          elim (cases_Bool (walks_again (phases_given s row) p (phase_read s p))) [
            | inl h ↦ absurd (true≢false (sym comes ∙ (again_parts s row p h).not_now))
            | inr h ↦ h
          ]

      still : pedestrian_now s.plan (phases_given s row) p (phase_read s p) ≡ DontWalk
      still =
          walks_no_more s.plan (phases_given s row) p (phase_read s p) None ends (awake_told s row p on free.awake) (stays_dark (phases_given s row) p (phase_read s p) none_again) (walk s.plan p) (pedestrian_clear s.plan p)
          (omega arith) (omega arith) (s.phases p).pedestrian_timer refl timed.walk timed.clearance
          (let was = it.over (s.now + 1) (omega arith) comes in omega (arith, was))

-- ## Along a run

-- what neither selects a pattern nor commits, and is no tick
same_test : (p : ℕ) (s : State) (i : Input) → is_tick i ≡ false → is_unforced p s i ≡ true → is_pressed_in_pattern p s i ≡ true
same_test p s (inputs.Tick row) t h = absurd (true≢false t)
same_test p s (inputs.Pattern n) t h = absurd (false≢true h)
same_test p s (inputs.Clock m) t h = absurd (false≢true h)
same_test p s (inputs.Commit station) t h = absurd (false≢true h)
same_test p s i t h = refl

goes_on_by : (s after : State) (p : ℕ) → Leaves s after p → GoesOn s p → GoesOn after p
goes_on_by s after p same it = record {
  green = ap (λ (x : Phase). x.interval) same.phase ∙ it.green;
  held = ap (λ (x : Plan). asks_hold x after.pattern p) same.plan ∙ (ap (λ (o : Option ℕ). asks_hold s.plan o p) same.pattern ∙ it.held);
  unlatched = ap (λ (x : Phase). x.forced) same.phase ∙ it.unlatched;
  over = over;
}
  where
    over : IsOverBy after p
    over f later comes =
        let comes_then : forces s.plan s.pattern s.correction f p ≡ true =
        sym (same_forces after.plan s.plan after.pattern s.pattern after.correction s.correction f p same.plan same.pattern same.correction) ∙ comes in
        let now : after.now ≡ s.now = same.now in
        let was = it.over f (omega (arith, now, later)) comes_then in
        let takes = ap (λ (x : Plan). walking_in (walk x p) (pedestrian_clear x p) (after.phases p).pedestrian_timer (after.phases p).pedestrian) same.plan in
        let phase = ap (λ (x : Phase). walking_in (walk s.plan p) (pedestrian_clear s.plan p) x.pedestrian_timer x.pedestrian) same.phase in
        omega (arith, now, was, takes, phase)

module _ (plan : Plan) (base : List Input) (p : ℕ) (ok : IsConsistent plan) (few : plan.phase_count ≤ 16) (first : GoesOn (replay plan base) p) where
  few_now : (is : List Input) → (replay plan is).plan.phase_count ≤ 16
  few_now is = let same = count_run plan is in omega (arith, same, few)

  stretch : (later : List Input) → AreTaken plan (later ++ base) → IsUntripped plan base later → HasGoneOn (is_unforced p) plan base later → GoesOn (replay plan (later ++ base)) p
  stretch [] taken dark free = first
  stretch (inputs.Tick row ∷ later) taken dark free =
      goes_on (replay plan (later ++ base)) row p (good_run plan (later ++ base) ok taken.0) (few_now (later ++ base)) (dark_now plan base later dark.0)
      (timed_run plan (later ++ base) ok taken.0 (dark_now plan base later dark.0) p) (stretch later taken.0 dark.0 free.0)
      (unheld_parts (replay plan (later ++ base)) row p both.0) (is-off (forced (replay plan (later ++ base)) p) both.1)
    where
      both : (is_unheld (replay plan (later ++ base)) row p ≡ true) × (not (forced (replay plan (later ++ base)) p) ≡ true)
      both = and_parts (is_unheld (replay plan (later ++ base)) row p) (not (forced (replay plan (later ++ base)) p)) free.1
  stretch (i ∷ later) taken dark free =
      goes_on_by (replay plan (later ++ base)) (replay plan (i ∷ (later ++ base))) p
      (leaves (replay plan (later ++ base)) i p refl (same_test p (replay plan (later ++ base)) i refl free.1) (dark_now plan base later dark.0))
      (stretch later taken.0 dark.0 free.0)

pub walk_is_over : (plan : Plan) (is later : List Input) (row next : Row) (p : ℕ) → IsConsistent plan → plan.phase_count ≤ 16 →
    AreTaken plan (later ++ (Tick row ∷ is)) → IsUntripped plan (Tick row ∷ is) later → WalksAgain (replay plan is) row p →
    HasGoneOn (is_unforced p) plan (Tick row ∷ is) later → forced (replay plan (later ++ (Tick row ∷ is))) p ≡ true →
    is_unheld (replay plan (later ++ (Tick row ∷ is))) next p ≡ true → IsOverByForceOff (replay plan (later ++ (Tick row ∷ is))) next p
walk_is_over plan is later row next p ok few taken dark walks free comes last =
    makes_way (replay plan (later ++ (Tick row ∷ is))) next p (good_run plan (later ++ (Tick row ∷ is)) ok taken) (few_at (later ++ (Tick row ∷ is)))
    (dark_now plan (Tick row ∷ is) later dark)
    (timed_run plan (later ++ (Tick row ∷ is)) ok taken (dark_now plan (Tick row ∷ is) later dark) p)
    (stretch plan (Tick row ∷ is) p ok few first later taken dark free)
    (unheld_parts (replay plan (later ++ (Tick row ∷ is))) next p last) comes
  where
    few_at : (js : List Input) → (replay plan js).plan.phase_count ≤ 16
    few_at js = let same = count_run plan js in omega (arith, same, few)

    taken_then : AreTaken plan is
    taken_then = (taken_before plan (Tick row ∷ is) later taken).0

    good : IsGood (replay plan is)
    good = good_run plan is ok taken_then

    dark_then : (replay plan is).trip ≡ None
    dark_then = untripped (replay plan is).trip refl
      where
        untripped : (o : Option Tripped) → (replay plan is).trip ≡ o → (replay plan is).trip ≡ None
        untripped None e = e
        untripped (Some t) e =
            let bad : DontWalk ≡ Walk = sym walks.dont_walk ∙ (sym (ap (λ (f : ℕ → Phase). (f p).pedestrian) (phases_rest (replay plan is) row (ap is_some e))) ∙ walks.walks) in
            absurd cc

    first : GoesOn (replay plan (Tick row ∷ is)) p
    first =
        begins (replay plan is) row p good (few_at is) dark_then
        (again_parts (replay plan is) row p (walked_again (replay plan is) row p good (few_at is) dark_then walks))

pub calls_are_recycled : (plan : Plan) (is : List Input) (row : Row) (p : ℕ) → IsConsistent plan → plan.phase_count ≤ 16 → AreTaken plan is →
    (replay plan is).trip ≡ None → RecyclesCalls (replay plan is) row p
calls_are_recycled plan is row p ok few taken dark =
    recycles_calls (replay plan is) row p (good_run plan is ok taken) (let same = count_run plan is in omega (arith, same, few)) dark
