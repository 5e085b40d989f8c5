-- How many ticks more a green takes in a pattern until it is forced off and may end, where it is forced off in tick f,
-- has a conflict in each tick and no preempt is in service: found of the phase as it stands, and one less after each
-- tick. For the clause `forced` of `coordination_goes_on`, and `phases_are_served_in_patterns`.
use Rattle.std.proofs.Common.{◌≡◌, ℕ, ◌+◌, ◌-◌, ◌<◌, ◌≤◌, nat_le, Bool, true, false, ◌&&◌, ◌||◌, if◌then◌else◌, max, Option, None, is_some, refl, sym, ap, subst, arith, ◌∙◌, inl, inr, ◌⊎◌}
use Rattle.std.proofs.lemmas.Bool.{and_from, or_left, or_right, cases_eq, cases_lt, true≢false}
use Rattle.std.proofs.lemmas.Bool.Decides.{nat_tests}
use Rattle.tsb_step.specs.tsb_cells.declared.timer.Timer.{Timer}
use Rattle.tsb_step.specs.tsb_cells.declared.timer.Timer.TheVariants.{On}
use Rattle.tsb_step.specs.tsb_cells.Timer.{advanced}
use Rattle.tsb_step.specs.tsb_types.declared.interval.Interval.TheVariants.{Green}
use Rattle.tsb_step.specs.tsb_types.declared.interval.PedestrianInterval.{PedestrianInterval}
use Rattle.tsb_step.specs.tsb_types.declared.interval.PedestrianInterval.TheVariants.{DontWalk, Walk}
use Rattle.tsb_step.specs.tsb_types.declared.row.Row.{Row}
use Rattle.tsb_step.specs.tsb_types.Intervals.{is_green, is_dont_walk}
use Rattle.tsb_step.specs.tsb_types.Sets.{is_phase}
use Rattle.tsb_step.specs.tsb_plan.Plan.{Plan, walk, pedestrian_clear}
use Rattle.tsb_step.specs.tsb_coord.Correction.{forces}
use Rattle.tsb_step.specs.tsb_phase.Phase.{Phase, Given, held_of}
use Rattle.tsb_step.specs.tsb_phase.Green.{initial, initial_has_passed, is_gapped, is_by_gap, has_maxed_out, floats_off, forced_latch}
use Rattle.tsb_step.specs.tsb_phase.Pedestrian.{ended_by, pedestrian_now, walks_again, pedestrian_timer_in}
use Rattle.tsb_step.specs.tsb_phase.Ready.{needs_forced, has_timed_out, may_end, green_is_done, is_ready}
use Rattle.tsb_step.specs.tsb_ring.Moves.{is_ended, is_started}
use Rattle.tsb_step.specs.State.{State, interval}
use Rattle.tsb_step.specs.Tick.{service, runs, forced, conflict, phases_given, phase_read, moves, ready, next}
use Rattle.tsb_step.specs.Good.{IsGood}
use Rattle.tsb_laws.specs.ServedCalls.{longest_initial}
use Rattle.tsb_laws.proofs.operation.step.PhaseTimeLemmas.{left, walking_in, Runs, IsTimed}
use Rattle.tsb_laws.proofs.operation.green.PressedGreenLemmas.{initial_most, rests_not, no_preempt}
use Rattle.tsb_laws.proofs.operation.green.WalkTimeLemmas.{stays_dark, walks_down, walks_no_more, walk_then}
use Rattle.tsb_laws.proofs.operation.recycle.RecycleTimeLemmas.{fits_to}
use Rattle.tsb_laws.proofs.operation.recycle.RecycledTickLemmas.{Again, again_parts}

-- what is forced off may end, be it coordinated or not
pub may_end_forced : (plan : Plan) (given : Given) (p : ℕ) (w : Phase) → forced_latch plan given p (held_of w) ≡ true → may_end plan given p w ≡ true
may_end_forced plan given p w h = go (needs_forced given p)
  where
    go : (b : Bool) → (if b then forced_latch plan given p (held_of w) else has_timed_out plan given p w) ≡ true
    go true = h
    go false =
        or_right (is_by_gap plan given p (is_gapped plan given p (held_of w)))
        (has_maxed_out plan given p (held_of w) w.running_maximum || forced_latch plan given p (held_of w))
        (or_right (has_maxed_out plan given p (held_of w) w.running_maximum) (forced_latch plan given p (held_of w)) h)

-- a green that nothing keeps is ready
pub ready_by_end : (plan : Plan) (given : Given) (p : ℕ) (w : Phase) → is_green w.interval ≡ true → pedestrian_now plan given p w ≡ DontWalk →
    ended_by given p ≡ None → initial_has_passed plan given p (held_of w) ≡ true → may_end plan given p w ≡ true → is_ready plan given p w ≡ true
unfolding is_ready
ready_by_end plan given p w green still ends long may =
    and_from (is_green w.interval) (is_dont_walk (pedestrian_now plan given p w) && green_is_done plan given p w (ended_by given p)) green
    (and_from (is_dont_walk (pedestrian_now plan given p w)) (green_is_done plan given p w (ended_by given p)) (ap is_dont_walk still)
    (ap (λ (o : Option ℕ). green_is_done plan given p w o) ends
    ∙ and_from (initial_has_passed plan given p (held_of w)) (may_end plan given p w) long may))

pub ready_by : (plan : Plan) (given : Given) (p : ℕ) (w : Phase) → is_green w.interval ≡ true → pedestrian_now plan given p w ≡ DontWalk →
    ended_by given p ≡ None → initial_has_passed plan given p (held_of w) ≡ true → forced_latch plan given p (held_of w) ≡ true → is_ready plan given p w ≡ true
ready_by plan given p w green still ends long latch = ready_by_end plan given p w green still ends long (may_end_forced plan given p w latch)

-- the ticks from t to f in which it will not have been forced off: none, where it was before in this green
abbrev pub forcing_left : ℕ → ℕ → Bool → ℕ
forcing_left f t true = 0
forcing_left f t false = f - t

-- the ticks in which a green will not be ready: from tick t on; i is its longest initial time, a and b are its walk and its
-- pedestrian clearance
abbrev pub pattern_left : ℕ → ℕ → ℕ → ℕ → ℕ → Phase → ℕ
pattern_left f t i a b x = max (forcing_left f t x.forced) (max (left i x.timer) (walking_in a b x.pedestrian_timer x.pedestrian))

-- that tick is still to come, or it has been forced off in this green
abbrev pub IsAhead : ℕ → ℕ → Bool → Type 0
IsAhead f t true = Unit {0}
IsAhead f t false = t ≤ f

-- ## What a green of a pattern is told

module _ (s : State) (row : Row) (p : ℕ) (on : is_phase p ≡ true) (pressed : conflict s row p ≡ true) (quiet : service s row ≡ None) where
  pub ended_by_none : ended_by (phases_given s row) p ≡ None
  unfolding phases_given
  ended_by_none = no_preempt ((phases_given s row).must_end p) (service s row) quiet

  pub told_conflict : (phases_given s row).conflict p ≡ true
  unfolding phases_given
  told_conflict = rw (on, pressed) refl

  told_service : (phases_given s row).service ≡ None
  unfolding phases_given
  told_service = quiet

  told_forced : (phases_given s row).forced p ≡ forced s p
  unfolding phases_given
  told_forced = ap (λ (b : Bool). b && forced s p) on

  told_runs : is_some (runs s) ≡ true → is_some (phases_given s row).runs ≡ true
  unfolding phases_given
  told_runs running = running

  -- its floating time has come in this tick
  abbrev pub floats_now : Bool
  floats_now = floats_off s.plan (phases_given s row) p (held_of (phase_read s p))

  -- it is forced off in this tick, by the cycle or by floating force-off, or was in an earlier one
  pub latches : is_some (runs s) ≡ true → forced_latch s.plan (phases_given s row) p (held_of (phase_read s p)) ≡ (forced s p || (floats_now || (s.phases p).forced))
  latches running = let some = told_runs running in rw (some, told_service, told_conflict, told_forced) refl

module _ (s : State) (row : Row) (p f : ℕ) (on : is_phase p ≡ true) (pressed : conflict s row p ≡ true) (running : is_some (runs s) ≡ true) (quiet : service s row ≡ None)
    (comes : forces s.plan s.pattern s.correction f p ≡ true) where
  ends_by_none : ended_by (phases_given s row) p ≡ None
  ends_by_none = ended_by_none s row p on pressed quiet

  busy : (phases_given s row).conflict p ≡ true
  busy = told_conflict s row p on pressed quiet

  abbrev floating : Bool
  floating = floats_now s row p on pressed quiet

  latch_is : forced_latch s.plan (phases_given s row) p (held_of (phase_read s p)) ≡ (forced s p || (floating || (s.phases p).forced))
  latch_is = latches s row p on pressed quiet running

  forced_at : s.now + 1 ≡ f → forced s p ≡ true
  forced_at e = ap (λ (t : ℕ). forces s.plan s.pattern s.correction t p) e ∙ comes

  -- where it is forced off in this tick, and nothing else keeps it, it is ready
  pub ready_at_once : s.now + 1 ≡ f → interval s p ≡ Green → initial_has_passed s.plan (phases_given s row) p (held_of (phase_read s p)) ≡ true →
      pedestrian_now s.plan (phases_given s row) p (phase_read s p) ≡ DontWalk → ready s row p ≡ true
  ready_at_once e green long still =
      ready_by s.plan (phases_given s row) p (phase_read s p) (ap is_green green) still ends_by_none long
      (latch_is ∙ or_left (forced s p) (floating || (s.phases p).forced) (forced_at e))

  latched_now : IsAhead f (s.now + 1) (s.phases p).forced → forcing_left f (s.now + 1) (s.phases p).forced ≡ 0 →
      forced_latch s.plan (phases_given s row) p (held_of (phase_read s p)) ≡ true
  latched_now ahead none = latch_is ∙ go (s.phases p).forced refl ahead none
    where
      go : (l : Bool) → (s.phases p).forced ≡ l → IsAhead f (s.now + 1) l → forcing_left f (s.now + 1) l ≡ 0 → (forced s p || (floating || (s.phases p).forced)) ≡ true
      go true e h z = or_right (forced s p) (floating || (s.phases p).forced) (or_right floating (s.phases p).forced e)
      go false e h z = or_left (forced s p) (floating || (s.phases p).forced) (forced_at (omega (arith, h, z)))

  -- a green that does not end has a tick less until then
  pub record Forces : Type 0 where
    pub ahead : IsAhead f (s.now + 1 + 1) ((next s row).phases p).forced
    pub less : forcing_left f (s.now + 1 + 1) ((next s row).phases p).forced ≤ forcing_left f (s.now + 1) (s.phases p).forced - 1

  pub forces_down : IsAhead f (s.now + 1) (s.phases p).forced → interval s p ≡ Green → is_ended (moves s row) p ≡ false → is_started (moves s row) p ≡ false → Forces
  forces_down ahead e no_end no_start = go (s.phases p).forced floating (forced s p) refl refl refl ahead
    where
      then_is : ((next s row).phases p).forced ≡ forced_latch s.plan (phases_given s row) p (held_of (phase_read s p))
      then_is = rw (no_start, e, no_end) refl

      latched : (m : Bool) → (s.phases p).forced ≡ m → ((next s row).phases p).forced ≡ true → Forces
      latched m g h = record { ahead = subst (λ (l : Bool). IsAhead f (s.now + 1 + 1) l) (sym h) tt; less = (let none = ap (λ (l : Bool). forcing_left f (s.now + 1 + 1) l) h in omega (arith, none)) }

      below : (t : ℕ) → t ≤ f → (t ≡ f → ⊥) → t + 1 ≤ f
      below t le other = elim (cases_eq t f) [ inl same ↦ absurd (other same) | inr apart ↦ strict (cases_lt t f) apart ]
        where
          strict : (t < f) ⊎ (f ≤ t) → (t ≡ f → ⊥) → t + 1 ≤ f
          strict (inl less) apart = omega (arith, less)
          strict (inr more) apart = absurd (apart (omega (arith, le, more)))

      go : (m l b : Bool) → (s.phases p).forced ≡ m → floating ≡ l → forced s p ≡ b → IsAhead f (s.now + 1) m → Forces
      go true l b g i h k =
          latched true g (then_is ∙ (latch_is ∙ or_right (forced s p) (floating || (s.phases p).forced) (or_right floating (s.phases p).forced g)))
      go false true b g i h k =
          latched false g (then_is ∙ (latch_is ∙ or_right (forced s p) (floating || (s.phases p).forced) (or_left floating (s.phases p).forced i)))
      go false false true g i h k = latched false g (then_is ∙ (latch_is ∙ or_left (forced s p) (floating || (s.phases p).forced) h))
      go false false false g i h k =
          let now : ((next s row).phases p).forced ≡ false = then_is ∙ (latch_is ∙ rw (h, i, g) refl) in
          let after = ap (λ (l : Bool). forcing_left f (s.now + 1 + 1) l) now in
          let before = ap (λ (l : Bool). forcing_left f (s.now + 1) l) g in
          let sooner : s.now + 1 + 1 ≤ f = below (s.now + 1) k (λ same. true≢false (sym (forced_at same) ∙ h)) in
          record { ahead = subst (λ (l : Bool). IsAhead f (s.now + 1 + 1) l) (sym now) sooner; less = omega (arith, after, before) }

  -- where p may not walk again, its pedestrians have a tick less
  walks_less : walks_again (phases_given s row) p (phase_read s p) ≡ false → (a b : ℕ) → walk s.plan p ≤ a → pedestrian_clear s.plan p ≤ b → IsTimed (s.phases p) →
      walking_in a b (pedestrian_timer_in (s.phases p).pedestrian (pedestrian_now s.plan (phases_given s row) p (phase_read s p)) (phase_read s p).pedestrian_timer)
      (pedestrian_now s.plan (phases_given s row) p (phase_read s p))
      ≤ walking_in a b (s.phases p).pedestrian_timer (s.phases p).pedestrian - 1
  walks_less again a b most_a most_b timed =
      walks_down s.plan (phases_given s row) p (phase_read s p) None ends_by_none (rests_not s.plan (phases_given s row) p busy)
      (stays_dark (phases_given s row) p (phase_read s p) again) a b most_a most_b
      (s.phases p).pedestrian_timer refl timed.walk timed.clearance

  -- a walk that begins within the green fits up to tick f, which is still to come
  walks_fit : IsGood s → IsAhead f (s.now + 1) (s.phases p).forced → walks_again (phases_given s row) p (phase_read s p) ≡ true →
      walking_in (walk s.plan p) (pedestrian_clear s.plan p)
      (pedestrian_timer_in (s.phases p).pedestrian (pedestrian_now s.plan (phases_given s row) p (phase_read s p)) (phase_read s p).pedestrian_timer)
      (pedestrian_now s.plan (phases_given s row) p (phase_read s p))
      ≤ forcing_left f (s.now + 1) (s.phases p).forced - 1
  walks_fit good ahead again =
      let it : Again s row p = again_parts s row p again in
      let clear : (s.phases p).forced ≡ false = not_both (s.phases p).forced (rw busy at it.unforced) in
      let after : s.now + 1 ≤ f = subst (λ (l : Bool). IsAhead f (s.now + 1) l) clear ahead in
      let fits = fits_to s p f good it.recycled (omega (arith, after)) comes in
      let least = it.long in
      let left_is = ap (λ (l : Bool). forcing_left f (s.now + 1) l) clear in
      let part : pedestrian_now s.plan (phases_given s row) p (phase_read s p) ≡ Walk = it.now in
      let same = ap (λ (x : PedestrianInterval). walking_in (walk s.plan p) (pedestrian_clear s.plan p) (pedestrian_timer_in (s.phases p).pedestrian x (phase_read s p).pedestrian_timer) x) part in
      let begun = ap (λ (x : PedestrianInterval). walking_in (walk s.plan p) (pedestrian_clear s.plan p) (pedestrian_timer_in x Walk (phase_read s p).pedestrian_timer) Walk) it.dark in
      omega (arith, fits, least, left_is, same, begun)
    where
      not_both : (x : Bool) → (x && true) ≡ false → x ≡ false
      not_both true z = absurd (true≢false z)
      not_both false z = refl

  -- a green that does not end has a tick less, also where its pedestrians walk again
  pub presses_down : IsGood s → (i : ℕ) → IsTimed (s.phases p) → IsAhead f (s.now + 1) (s.phases p).forced →
      interval s p ≡ Green → is_ended (moves s row) p ≡ false → is_started (moves s row) p ≡ false →
      pattern_left f (s.now + 1 + 1) i (walk s.plan p) (pedestrian_clear s.plan p) ((next s row).phases p)
      ≤ pattern_left f (s.now + 1) i (walk s.plan p) (pedestrian_clear s.plan p) (s.phases p) - 1
  presses_down good i timed ahead e no_end no_start =
      let run : Runs (s.phases p).timer = timed.green e in
      let ticks : ((next s row).phases p).timer ≡ On (run.count + 1) = rw (no_start, e, no_end, run.is) refl in
      let first : left i ((next s row).phases p).timer ≡ left i (On (run.count + 1)) = ap (λ (t : Timer). left i t) ticks in
      let was : left i (s.phases p).timer ≡ left i (On run.count) = ap (λ (t : Timer). left i t) run.is in
      let same = walk_then s row p e no_end no_start a b in
      at_most (forcing_left f (s.now + 1 + 1) ((next s row).phases p).forced) (forcing_left f (s.now + 1) (s.phases p).forced)
      (left i ((next s row).phases p).timer) (left i (s.phases p).timer)
      (walking_in a b ((next s row).phases p).pedestrian_timer ((next s row).phases p).pedestrian)
      (walking_in a b (s.phases p).pedestrian_timer (s.phases p).pedestrian)
      (forces_down ahead e no_end no_start).less (omega (arith, first, was))
      (let less = down (walks_again (phases_given s row) p (phase_read s p)) refl in omega (arith, same, less))
    where
      a : ℕ
      a = walk s.plan p

      b : ℕ
      b = pedestrian_clear s.plan p

      down : (w : Bool) → walks_again (phases_given s row) p (phase_read s p) ≡ w →
          walking_in a b (pedestrian_timer_in (s.phases p).pedestrian (pedestrian_now s.plan (phases_given s row) p (phase_read s p)) (phase_read s p).pedestrian_timer)
          (pedestrian_now s.plan (phases_given s row) p (phase_read s p))
          ≤ max (forcing_left f (s.now + 1) (s.phases p).forced) (walking_in a b (s.phases p).pedestrian_timer (s.phases p).pedestrian) - 1
      down false again = let less = walks_less again a b (omega arith) (omega arith) timed in omega (arith, less)
      down true again = let less = walks_fit good ahead again in omega (arith, less)

      at_most : (c d j m x y : ℕ) → c ≤ d - 1 → j ≤ m - 1 → x ≤ max d y - 1 → max c (max j x) ≤ max d (max m y) - 1
      at_most c d j m x y f g h = omega (arith, f, g, h)

  -- once it is forced off, its pedestrians do not walk again
  none_again : IsAhead f (s.now + 1) (s.phases p).forced → forcing_left f (s.now + 1) (s.phases p).forced ≡ 0 →
      walks_again (phases_given s row) p (phase_read s p) ≡ false
  none_again ahead none = go (walks_again (phases_given s row) p (phase_read s p)) refl
    where
      go : (w : Bool) → walks_again (phases_given s row) p (phase_read s p) ≡ w → walks_again (phases_given s row) p (phase_read s p) ≡ false
      go false h = h
      go true h = absurd (bad (s.phases p).forced refl ahead none)
        where
          it : Again s row p
          it = again_parts s row p h

          bad : (l : Bool) → (s.phases p).forced ≡ l → IsAhead f (s.now + 1) l → forcing_left f (s.now + 1) l ≡ 0 → ⊥
          bad true e k z = true≢false (rw (e, busy) at it.unforced)
          bad false e k z = true≢false (sym (forced_at (omega (arith, k, z))) ∙ it.not_now)

  -- one that has none left is ready
  pub ready_then : (i a b : ℕ) → longest_initial s.plan p ≤ i → walk s.plan p ≤ a → pedestrian_clear s.plan p ≤ b → IsTimed (s.phases p) →
      IsAhead f (s.now + 1) (s.phases p).forced → interval s p ≡ Green → pattern_left f (s.now + 1) i a b (s.phases p) ≡ 0 → ready s row p ≡ true
  ready_then i a b most_i most_a most_b timed ahead e none =
      let run : Runs (s.phases p).timer = timed.green e in
      let first : forcing_left f (s.now + 1) (s.phases p).forced ≡ 0 = omega (arith, none) in
      let second : left i (s.phases p).timer ≡ 0 = omega (arith, none) in
      let third : walking_in a b (s.phases p).pedestrian_timer (s.phases p).pedestrian ≡ 0 = omega (arith, none) in
      let zero : left i (On run.count) ≡ 0 = sym (ap (λ (x : Timer). left i x) run.is) ∙ second in
      let now : (phase_read s p).timer ≡ On (run.count + 1) = ap advanced run.is in
      let most : initial s.plan p ((phases_given s row).count p) ≤ longest_initial s.plan p = initial_most s.plan p ((phases_given s row).count p) in
      let reached : nat_le (initial s.plan p ((phases_given s row).count p)) (run.count + 1) ≡ true = grind (arith, nat_tests, zero, most, most_i) in
      let long : initial_has_passed s.plan (phases_given s row) p (held_of (phase_read s p)) ≡ true = rw now reached in
      let still : pedestrian_now s.plan (phases_given s row) p (phase_read s p) ≡ DontWalk =
      walks_no_more s.plan (phases_given s row) p (phase_read s p) None ends_by_none (rests_not s.plan (phases_given s row) p busy)
      (stays_dark (phases_given s row) p (phase_read s p) (none_again ahead first)) a b most_a most_b (s.phases p).pedestrian_timer refl
      timed.walk timed.clearance third in
      ready_by s.plan (phases_given s row) p (phase_read s p) (ap is_green e) still ends_by_none long (latched_now ahead first)
