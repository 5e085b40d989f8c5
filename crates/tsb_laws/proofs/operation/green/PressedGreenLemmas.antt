-- How many ticks more a green takes until it may end, in free operation and with no preempt in service, where it has a
-- conflict in each tick: found of the phase as it stands, and one less after each tick. For `pressed_greens_may_end`,
-- `called_phases_are_served` and the laws of greens in patterns.
use Rattle.std.proofs.Common.{◌≡◌, ℕ, ◌+◌, ◌-◌, ◌*◌, ◌≤◌, ◌==◌, nat_le, Bool, true, false, not, ◌&&◌, ◌||◌, if◌then◌else◌, min, max, Option, Some, None, is_none, refl, sym, ap, arith, ◌∙◌}
use Rattle.std.proofs.lemmas.Bool.{and_parts, eqb-true, true≢false, false≢true}
use Rattle.std.proofs.lemmas.Bool.Decides.{nat_tests}
use Rattle.tsb_step.specs.tsb_cells.declared.timer.Timer.{Timer}
use Rattle.tsb_step.specs.tsb_cells.declared.timer.Timer.TheVariants.{Off, On}
use Rattle.tsb_step.specs.tsb_cells.Timer.{advanced, started, has_reached}
use Rattle.tsb_step.specs.tsb_types.declared.interval.Interval.TheVariants.{Green}
use Rattle.tsb_step.specs.tsb_types.declared.interval.PedestrianInterval.TheVariants.{DontWalk, Walk, PedestrianClear}
use Rattle.tsb_step.specs.tsb_types.declared.row.Row.{Row}
use Rattle.tsb_step.specs.tsb_types.Intervals.{is_green, is_dont_walk}
use Rattle.tsb_step.specs.tsb_types.Flow.{gives_walk}
use Rattle.tsb_step.specs.tsb_types.Sets.{is_phase}
use Rattle.tsb_step.specs.tsb_plan.Plan.{Plan, maximum, has_variable_initial, minimum_green, maximum_initial, added_initial, walk, pedestrian_clear, rests_in_walk}
use Rattle.tsb_step.specs.tsb_phase.DynamicMaximum.{is_dynamic, highest_maximum, effective_maximum, maximum_in_use}
use Rattle.tsb_step.specs.tsb_phase.Phase.{Phase, Given, held_of}
use Rattle.tsb_step.specs.tsb_phase.Green.{initial, has_maxed_out, is_gapped, is_by_gap, forced_latch}
use Rattle.tsb_step.specs.tsb_phase.Pedestrian.{ended_by, is_resting_in_walk, pedestrian_now, walks_again}
use Rattle.tsb_step.specs.tsb_phase.Ready.{has_timed_out, is_ready}
use Rattle.tsb_step.specs.tsb_ring.Moves.{is_ended, is_started}
use Rattle.tsb_step.specs.State.{State, interval}
use Rattle.tsb_step.specs.Tick.{service, runs, recycle, conflict, phases_given, phase_read, moves, ready, next}
use Rattle.tsb_laws.specs.ServedCalls.{is_free, longest_maximum, longest_initial}
use Rattle.tsb_laws.proofs.operation.step.PhaseTimeLemmas.{left, walking_in, Runs, IsTimed}
use Rattle.tsb_laws.proofs.operation.green.WalkTimeLemmas.{stays_dark, walks_down, walks_no_more, walk_then}
use Rattle.tsb_step.proofs.EventLemmas.{none-of}

-- the ticks in which a green will not be ready: m and i are its longest maximum and initial, a and b its walk and its
-- pedestrian clearance
unfoldable pub pressed_left : ℕ → ℕ → ℕ → ℕ → Phase → ℕ
pressed_left m i a b x = max (left m x.conflict) (max (left i x.timer) (walking_in a b x.pedestrian_timer x.pedestrian))

-- it does not see the forced latch
pub pressed_unforced : (m i a b : ℕ) (x : Phase) (f : Bool) → pressed_left m i a b (record x { forced = f }) ≡ pressed_left m i a b x
unfolding pressed_left
pressed_unforced m i a b x f = refl

-- ## Times of a plan

pub maximum_most : (plan : Plan) (p : ℕ) (running : Option ℕ) → maximum_in_use plan p running ≤ longest_maximum plan p
unfolding maximum_in_use
maximum_most plan p running = go (is_dynamic plan p) running
  where
    go : (b : Bool) (o : Option ℕ) →
        (if b then effective_maximum plan p o else maximum plan p) ≤ (if b then highest_maximum plan p else maximum plan p)
    go true None = omega arith
    go true (Some n) = omega arith
    go false o = omega arith

pub initial_most : (plan : Plan) (p cars : ℕ) → initial plan p cars ≤ longest_initial plan p
unfolding initial
initial_most plan p cars = go (has_variable_initial plan p) (added_initial plan p * cars)
  where
    go : (b : Bool) (x : ℕ) → (if b then max (minimum_green plan p) (min (maximum_initial plan p) x) else minimum_green plan p)
        ≤ (if b then max (minimum_green plan p) (maximum_initial plan p) else minimum_green plan p)
    go true x = omega arith
    go false x = omega arith

-- a conflict that has nothing left has lasted a time
pub reached_all : (limit most : ℕ) (t : Timer) → limit ≤ most → left most t ≡ 0 → has_reached (started (advanced t)) limit ≡ true
reached_all limit most Off h none = grind (arith, nat_tests, h, none)
reached_all limit most (On n) h none = grind (arith, nat_tests, h, none)

-- ## The pedestrians of a green that nothing but a conflict ends

-- with a conflict the phase does not rest in walk
pub rests_not : (plan : Plan) (given : Given) (p : ℕ) → given.conflict p ≡ true → is_resting_in_walk plan given p ≡ false
rests_not plan given p busy = rw busy (go (rests_in_walk plan p))
  where
    go : (a : Bool) → (a && false) ≡ false
    go true = refl
    go false = refl

-- ## Its green

module _ (plan : Plan) (given : Given) (p : ℕ) (w : Phase) (ends : ended_by given p ≡ None) (busy : given.conflict p ≡ true)
    (again : walks_again given p w ≡ false) where
  maxed_out : (m : ℕ) → longest_maximum plan p ≤ m → given.runs ≡ None → (t : Timer) → w.conflict ≡ advanced t → left m t ≡ 0 →
      has_maxed_out plan given p (held_of w) w.running_maximum ≡ true
  maxed_out m most free t read none =
      let limit : maximum_in_use plan p w.running_maximum ≤ m = (let it = maximum_most plan p w.running_maximum in omega (arith, it, most)) in
      let reached : has_reached (started (advanced t)) (maximum_in_use plan p w.running_maximum) ≡ true =
      reached_all (maximum_in_use plan p w.running_maximum) m t limit none in
      rw (free, busy, read, reached) refl

  or_middle : (a m f : Bool) → m ≡ true → (a || (m || f)) ≡ true
  or_middle true m f h = refl
  or_middle false true f h = refl
  or_middle false false f h = absurd (false≢true h)

  pub times_out : has_maxed_out plan given p (held_of w) w.running_maximum ≡ true → has_timed_out plan given p w ≡ true
  times_out h =
      or_middle (is_by_gap plan given p (is_gapped plan given p (held_of w))) (has_maxed_out plan given p (held_of w) w.running_maximum)
      (forced_latch plan given p (held_of w)) h

  pub is_ready_then : (m i a b : ℕ) → longest_maximum plan p ≤ m → longest_initial plan p ≤ i → walk plan p ≤ a → pedestrian_clear plan p ≤ b →
      given.runs ≡ None → given.hold p ≡ false → (s t u : Timer) → w.conflict ≡ advanced s → w.timer ≡ advanced t → w.pedestrian_timer ≡ advanced u →
      Runs t → (w.pedestrian ≡ Walk → Runs u) → (w.pedestrian ≡ PedestrianClear → Runs u) → is_green w.interval ≡ true →
      max (left m s) (max (left i t) (walking_in a b u w.pedestrian)) ≡ 0 → is_ready plan given p w ≡ true
  unfolding is_ready
  is_ready_then m i a b most_m most_i most_a most_b free held s t u read_s read_t read_u run on_walk on_clear green none =
      let first : left m s ≡ 0 = omega (arith, none) in
      let second : left i t ≡ 0 = omega (arith, none) in
      let third : walking_in a b u w.pedestrian ≡ 0 = omega (arith, none) in
      let still : pedestrian_now plan given p w ≡ DontWalk =
      walks_no_more plan given p w None ends (rests_not plan given p busy) (stays_dark given p w again) a b most_a most_b u read_u on_walk on_clear third in
      let out : has_maxed_out plan given p (held_of w) w.running_maximum ≡ true = maxed_out m most_m free s read_s first in
      let now : w.timer ≡ On (run.count + 1) = read_t ∙ ap advanced run.is in
      let zero : left i (On run.count) ≡ 0 = sym (ap (λ (x : Timer). left i x) run.is) ∙ second in
      let most : initial plan p (given.count p) ≤ longest_initial plan p = initial_most plan p (given.count p) in
      let passed : nat_le (initial plan p (given.count p)) (run.count + 1) ≡ true = grind (arith, nat_tests, zero, most, most_i) in
      let long : has_reached w.timer (initial plan p (given.count p)) ≡ true = rw now passed in
      rw (green, still, ends, held, times_out out, long) refl

-- ## As the controller has it

pub no_preempt : (b : Bool) (o : Option ℕ) → o ≡ None → (if b then o else None) ≡ None
no_preempt true o h = h
no_preempt false o h = refl

pub free_parts : (s : State) (row : Row) → is_free s row ≡ true → (service s row ≡ None) × (runs s ≡ None)
free_parts s row h =
    let both = and_parts (is_none (service s row)) (is_none (runs s)) h in (none-of (service s row) both.0, none-of (runs s) both.1)

-- no walk begins within the green of a phase that has no pedestrian recycle in this tick
pub walks_not : (s : State) (row : Row) (p : ℕ) → recycle s p ≡ false → walks_again (phases_given s row) p (phase_read s p) ≡ false
unfolding phases_given
walks_not s row p h =
    go (is_dont_walk (s.phases p).pedestrian) (is_green (s.phases p).interval) (is_phase p) (recycle s p) h
    (gives_walk ((phases_given s row).pedestrian_call p) (service s row) && not ((s.phases p).forced && (phases_given s row).conflict p))
  where
    go : (a b c d : Bool) → d ≡ false → (e : Bool) → (a && (b && ((c && d) && e))) ≡ false
    go false b c d k e = refl
    go true false c d k e = refl
    go true true false d k e = refl
    go true true true d k e = rw k refl

module _ (s : State) (row : Row) (p : ℕ) (on : is_phase p ≡ true) (pressed : conflict s row p ≡ true) (quiet : service s row ≡ None) where
  ends_by_none : ended_by (phases_given s row) p ≡ None
  unfolding phases_given
  ends_by_none = no_preempt ((phases_given s row).must_end p) (service s row) quiet

  busy_told : (phases_given s row).conflict p ≡ true
  unfolding phases_given
  busy_told = rw (on, pressed) refl

  -- where it may not walk again within its green, a green that does not end has a tick less
  pub presses_down_quiet : walks_again (phases_given s row) p (phase_read s p) ≡ false → (m i a b : ℕ) → walk s.plan p ≤ a → pedestrian_clear s.plan p ≤ b → IsTimed (s.phases p) → interval s p ≡ Green →
      is_ended (moves s row) p ≡ false → is_started (moves s row) p ≡ false →
      pressed_left m i a b ((next s row).phases p) ≤ pressed_left m i a b (s.phases p) - 1
  unfolding pressed_left
  presses_down_quiet again m i a b most_a most_b timed e no_end no_start =
      let run : Runs (s.phases p).timer = timed.green e in
      let counts : ((next s row).phases p).conflict ≡ started (advanced (s.phases p).conflict) = rw (no_start, e, no_end, busy_told) refl in
      let zeroth : left m ((next s row).phases p).conflict ≡ left m (started (advanced (s.phases p).conflict)) = ap (λ (t : Timer). left m t) counts in
      let lower : left m (started (advanced (s.phases p).conflict)) ≤ left m (s.phases p).conflict - 1 = counts_down (s.phases p).conflict in
      let ticks : ((next s row).phases p).timer ≡ On (run.count + 1) = rw (no_start, e, no_end, run.is) refl in
      let first : left i ((next s row).phases p).timer ≡ left i (On (run.count + 1)) = ap (λ (t : Timer). left i t) ticks in
      let was : left i (s.phases p).timer ≡ left i (On run.count) = ap (λ (t : Timer). left i t) run.is in
      let same = walk_then s row p e no_end no_start a b in
      let down = walks_down s.plan (phases_given s row) p (phase_read s p) None ends_by_none (rests_not s.plan (phases_given s row) p busy_told)
      (stays_dark (phases_given s row) p (phase_read s p) again) a b most_a most_b (s.phases p).pedestrian_timer refl
      timed.walk timed.clearance in
      at_most (left m ((next s row).phases p).conflict) (left m (s.phases p).conflict)
      (left i ((next s row).phases p).timer) (left i (s.phases p).timer)
      (walking_in a b ((next s row).phases p).pedestrian_timer ((next s row).phases p).pedestrian)
      (walking_in a b (s.phases p).pedestrian_timer (s.phases p).pedestrian)
      (omega (arith, zeroth, lower)) (omega (arith, first, was)) (omega (arith, same, down))
    where
      counts_down : (t : Timer) → left m (started (advanced t)) ≤ left m t - 1
      counts_down Off = omega arith
      counts_down (On n) = omega arith

      at_most : (c d j k x y : ℕ) → c ≤ d - 1 → j ≤ k - 1 → x ≤ y - 1 → max c (max j x) ≤ max d (max k y) - 1
      at_most c d j k x y f g h = omega (arith, f, g, h)

module _ (s : State) (row : Row) (p : ℕ) (on : is_phase p ≡ true) (pressed : conflict s row p ≡ true) (free : is_free s row ≡ true) where
  ended_by_none : ended_by (phases_given s row) p ≡ None
  ended_by_none = ends_by_none s row p on pressed (free_parts s row free).0

  told_conflict : (phases_given s row).conflict p ≡ true
  told_conflict = busy_told s row p on pressed (free_parts s row free).0

  told_runs : (phases_given s row).runs ≡ None
  unfolding phases_given
  told_runs = (free_parts s row free).1

  told_hold : (phases_given s row).hold p ≡ false
  unfolding phases_given
  told_hold = rw (on, (free_parts s row free).1) refl

  told_again : walks_again (phases_given s row) p (phase_read s p) ≡ false
  told_again = walks_not s row p (rw (free_parts s row free).1 refl)

  -- a green that does not end has a tick less
  pub presses_down : (m i a b : ℕ) → walk s.plan p ≤ a → pedestrian_clear s.plan p ≤ b → IsTimed (s.phases p) → interval s p ≡ Green →
      is_ended (moves s row) p ≡ false → is_started (moves s row) p ≡ false →
      pressed_left m i a b ((next s row).phases p) ≤ pressed_left m i a b (s.phases p) - 1
  presses_down = presses_down_quiet s row p on pressed (free_parts s row free).0 told_again

  -- one that is not ready has a tick left
  pub not_ready_yet : (m i a b : ℕ) → longest_maximum s.plan p ≤ m → longest_initial s.plan p ≤ i → walk s.plan p ≤ a → pedestrian_clear s.plan p ≤ b →
      IsTimed (s.phases p) → interval s p ≡ Green → ready s row p ≡ false → 1 ≤ pressed_left m i a b (s.phases p)
  unfolding pressed_left
  not_ready_yet m i a b most_m most_i most_a most_b timed e h = go (pressed_left m i a b (s.phases p) == 0) refl
    where
      go : (z : Bool) → (pressed_left m i a b (s.phases p) == 0) ≡ z → 1 ≤ pressed_left m i a b (s.phases p)
      go false k = grind (arith, nat_tests, k)
      go true k =
          let none : pressed_left m i a b (s.phases p) ≡ 0 = eqb-true (pressed_left m i a b (s.phases p)) 0 k in
          absurd (true≢false (sym (is_ready_then s.plan (phases_given s row) p (phase_read s p) ended_by_none told_conflict told_again m i a b most_m most_i most_a most_b
          told_runs told_hold (s.phases p).conflict (s.phases p).timer (s.phases p).pedestrian_timer refl refl refl (timed.green e) timed.walk timed.clearance
          (ap is_green e) none) ∙ h))
