-- What one tick makes of the place of a ring in its order, where no crossing begins and the greens of the ring have a
-- conflict: it goes on to a phase that comes later, goes home to one that does not, waits at the barrier, has a tick
-- less to wait, or rests. For the laws that called phases are served, in free operation and in patterns.
use Rattle.std.proofs.Common.{◌≡◌, ℕ, ◌+◌, ◌-◌, ◌≤◌, Bool, true, false, List, Option, Some, None, refl, sym, ap, subst, ◌∙◌, inl, inr, ◌⊎◌, arith}
use Rattle.std.proofs.lemmas.Bool.{cases_Bool, true≢false, false_from_ne_true}
use Rattle.tsb_step.specs.tsb_types.declared.interval.Interval.TheVariants.{Red, Green}
use Rattle.tsb_step.specs.tsb_types.declared.row.Row.{Row}
use Rattle.tsb_step.specs.tsb_types.Intervals.{is_green, in_service}
use Rattle.tsb_step.specs.tsb_types.Lists.{first, later, not_later}
use Rattle.tsb_step.specs.tsb_plan.Plan.{Plan, yellow_change, red_clear, red_revert}
use Rattle.tsb_step.specs.tsb_ring.declared.want.Want.TheVariants.{Go, Cross, Rest}
use Rattle.tsb_step.specs.tsb_ring.Rings as rings
use Rattle.tsb_step.specs.tsb_ring.Rings.{Ring, Given, in_ring, serving}
use Rattle.tsb_step.specs.tsb_ring.Wants.{is_candidate, is_called_elsewhere, is_idle_or_green, picked_before, want_of, pick}
use Rattle.tsb_step.specs.tsb_ring.Crossings.{ring_joins, begins}
use Rattle.tsb_step.specs.tsb_ring.Next.{starting}
use Rattle.tsb_step.specs.tsb_ring.Moves.{is_ended, is_cleared, is_started}
use Rattle.tsb_step.proofs.tsb_ring.StillLemmas.{taken-none}
use Rattle.tsb_step.proofs.tsb_ring.WaitLemmas.{first-passes}
use Rattle.tsb_step.proofs.tsb_phase.ReadLemmas.{is-red}
use Rattle.tsb_step.specs.State.{State, interval}
use Rattle.tsb_step.specs.Tick.{conflict, over, reverted, ready, rings_given, moves, after_moves}
use Rattle.tsb_laws.proofs.safety.AllRedRingLemmas.{started_by}
use Rattle.tsb_laws.proofs.safety.EnabledLemmas.{callable_no_green}
use Rattle.tsb_laws.proofs.operation.step.PhaseTimeLemmas.{clears_down, not_yet_over, reverts_down, not_yet_reverted}
use Rattle.tsb_laws.proofs.operation.step.TurnRingLemmas.{Candidate, candidate_is, want_is, starts_none, starts_picked, Delays, clearing, reverting, starts_or_waits, picks_idle, picks_green, last_started, last_stays, promise_kept, promise_stays, promise_made, none_promised}
use Rattle.tsb_laws.proofs.operation.step.PhaseLeftLemmas.{clear_left, back_left, clear_most, back_most, clear_none}
use Rattle.tsb_laws.proofs.operation.calls.RingPlaceLemmas.{View, view, order_of, IsAt, bound_to, in_green, at_rest, IsNear, settled, clearing_out}
use Rattle.tsb_laws.proofs.operation.step.OpenTickLemmas.{IsOpenTick, fair, told_ready, told_over, told_reverted, listed, serves_it, serves_none, served_is, given_green, ended_ready, starts_nothing, starts_it, ends_none}
use Rattle.tsb_laws.proofs.operation.step.TickLemmas.{dark_is}
use Rattle.tsb_laws.proofs.operation.barrier.BarrierWishLemmas.{picks_cross, joins_green, joins_idle, cross_keeps, picks_clearing, clears_over_one, cleared_is, cleared_red, ended_none, cleared_over, still_clearing}
use Rattle.tsb_step.proofs.WaitLackLemmas.{interval-as-told}

-- a green that is not ready takes nothing
picks_unready : (plan : Plan) (s : rings.State) (given : Given) (r : Ring) (p : ℕ) → serving plan given r ≡ Some p → given.ready p ≡ false → pick plan s given r ≡ None
unfolding pick
picks_unready plan s given r p e h = rw e (taken-none given p (want_of plan s given r) h)

module _ (free : Bool) (longest : ℕ → ℕ) (Lasts : View → ℕ → ℕ → Type 0) where
  -- in the tick the rings go by their orders, and what bounds their greens does so
  pub record BoundsGreens (s : State) (row : Row) : Type 0 where
    pub sequenced : (r : Ring) → (rings_given s row).sequence r ≡ order_of (view free s) r
    pub begins_green : (p : ℕ) → is_started (moves s row) p ≡ true → Lasts (view free (after_moves s row)) p (longest p)
    pub goes_down : (p n : ℕ) → interval s p ≡ Green → conflict s row p ≡ true → is_ended (moves s row) p ≡ false → is_started (moves s row) p ≡ false →
        Lasts (view free s) p n → Lasts (view free (after_moves s row)) p (n - 1)
    pub not_yet : (p n : ℕ) → interval s p ≡ Green → conflict s row p ≡ true → ready s row p ≡ false → Lasts (view free s) p n → 1 ≤ n

  module _ (s : State) (row : Row) (tick : IsOpenTick s row) (bounds : BoundsGreens s row) (none : begins s.plan s.rings (rings_given s row) ≡ false) (k : ℕ)
      (clears : (p : ℕ) → yellow_change s.plan p + red_clear s.plan p ≤ k) (reverts : (p : ℕ) → red_revert s.plan p ≤ k) (r : Ring)
      (pressed : (p : ℕ) → in_ring s.plan r p ≡ true → interval s p ≡ Green → conflict s row p ≡ true) where
    abbrev test : ℕ → Bool
    test = is_candidate s.plan s.rings (rings_given s row) r (picked_before s.plan s.rings (rings_given s row) r)

    abbrev away : Bool
    away = is_called_elsewhere s.plan s.rings (rings_given s row)

    abbrev At : Option ℕ → ℕ → Type 0
    At o u = IsAt longest Lasts (view free (after_moves s row)) r o u

    -- what it goes to starts, or the ring is committed to it
    abbrev IsTaken : ℕ → Type 0
    IsTaken x = ((after_moves s row).rings.commitment r ≡ Some x) ⊎ (interval (after_moves s row) x ≡ Green)

    -- from place o, where it had u ticks to go; `Then` says how it stands there with a number of ticks
    pub data Goes_on (Then : Option ℕ → ℕ → Type 0) (o : Option ℕ) (u : ℕ) : Type 0 where
      on_to : (x w : ℕ) → s.rings.commitment r ≡ None → first test (later o (order_of (view free s) r)) ≡ Some x → IsTaken x →
          IsAt longest Lasts (view free (after_moves s row)) r (Some x) w → w ≤ longest x + k + 1 → Goes_on Then o u
      home_to : (x w : ℕ) → s.rings.commitment r ≡ None → first test (later o (order_of (view free s) r)) ≡ None → away ≡ false →
          first test (not_later o (order_of (view free s) r)) ≡ Some x → IsTaken x → IsAt longest Lasts (view free (after_moves s row)) r (Some x) w → w ≤ longest x + k + 1 →
          Goes_on Then o u
      starts_it_now : (c : ℕ) → s.rings.commitment r ≡ Some c → interval (after_moves s row) c ≡ Green → 1 ≤ u → Then o (u - 1) → Goes_on Then o u
      waits : 1 ≤ u → (after_moves s row).rings.commitment r ≡ s.rings.commitment r → Then o (u - 1) → Goes_on Then o u
      at_barrier : s.rings.commitment r ≡ None → first test (later o (order_of (view free s) r)) ≡ None → away ≡ true → Then o (u - 1) →
          ring_joins s.plan s.rings (rings_given s row) r ≡ true → want_of s.plan s.rings (rings_given s row) r ≡ Some Cross → Goes_on Then o u
      rests : s.rings.commitment r ≡ None → first test (later o (order_of (view free s) r)) ≡ None → away ≡ false →
          first test (not_later o (order_of (view free s) r)) ≡ None → Goes_on Then o u

    -- ## What it wants

    data Wants : Type 0 where
      wants_on : (x : ℕ) → first test (later (s.rings.last r) (order_of (view free s) r)) ≡ Some x → want_of s.plan s.rings (rings_given s row) r ≡ Some (Go x) → Wants
      wants_home : (x : ℕ) → first test (later (s.rings.last r) (order_of (view free s) r)) ≡ None → away ≡ false → first test (not_later (s.rings.last r) (order_of (view free s) r)) ≡ Some x →
          want_of s.plan s.rings (rings_given s row) r ≡ Some (Go x) → Wants
      wants_across : first test (later (s.rings.last r) (order_of (view free s) r)) ≡ None → away ≡ true → want_of s.plan s.rings (rings_given s row) r ≡ Some Cross → Wants
      wants_rest : first test (later (s.rings.last r) (order_of (view free s) r)) ≡ None → away ≡ false → first test (not_later (s.rings.last r) (order_of (view free s) r)) ≡ None →
          want_of s.plan s.rings (rings_given s row) r ≡ Some Rest → Wants

    wants : s.rings.commitment r ≡ None → is_idle_or_green (rings_given s row) (serving s.plan (rings_given s row) r) ≡ true → Wants
    wants e idle = go (first test (later (s.rings.last r) ((rings_given s row).sequence r))) away (first test (not_later (s.rings.last r) ((rings_given s row).sequence r))) refl refl refl
      where
        found_later : (o : Option ℕ) → first test (later (s.rings.last r) ((rings_given s row).sequence r)) ≡ o → first test (later (s.rings.last r) (order_of (view free s) r)) ≡ o
        found_later o e = ap (λ (l : List ℕ). first test (later (s.rings.last r) l)) (sym (bounds.sequenced r)) ∙ e

        found_again : (o : Option ℕ) → first test (not_later (s.rings.last r) ((rings_given s row).sequence r)) ≡ o → first test (not_later (s.rings.last r) (order_of (view free s) r)) ≡ o
        found_again o e = ap (λ (l : List ℕ). first test (not_later (s.rings.last r) l)) (sym (bounds.sequenced r)) ∙ e

        go : (o : Option ℕ) (b : Bool) (a : Option ℕ) → first test (later (s.rings.last r) ((rings_given s row).sequence r)) ≡ o → away ≡ b →
            first test (not_later (s.rings.last r) ((rings_given s row).sequence r)) ≡ a → Wants
        go (Some x) b a d f g = wants_on x (found_later (Some x) d) (want_is s.plan s.rings (rings_given s row) (fair s row tick) r e idle ∙ rw d refl)
        go None true a d f g = wants_across (found_later None d) f (want_is s.plan s.rings (rings_given s row) (fair s row tick) r e idle ∙ rw (d, f) refl)
        go None false (Some x) d f g =
            wants_home x (found_later None d) f (found_again (Some x) g) (want_is s.plan s.rings (rings_given s row) (fair s row tick) r e idle ∙ rw (d, f, g) refl)
        go None false None d f g =
            wants_rest (found_later None d) f (found_again None g) (want_is s.plan s.rings (rings_given s row) (fair s row tick) r e idle ∙ rw (d, f, g) refl)

    -- what it goes to
    pub head : (list : List ℕ) (x : ℕ) → first test list ≡ Some x → Candidate s.plan s.rings (rings_given s row) (fair s row tick) r x
    head list x e =
        candidate_is s.plan s.rings (rings_given s row) (fair s row tick) r (picked_before s.plan s.rings (rings_given s row) r) x (first-passes test list x e)

    -- ## What a tick leaves

    starting_at : (x w : ℕ) → starting s.plan s.rings (rings_given s row) r ≡ Some x → in_ring s.plan r x ≡ true → longest x ≤ w → At (Some x) w
    unfolding moves
    starting_at x w start own most =
        in_green x (longest x) (promise_kept s.plan s.rings (rings_given s row) (fair s row tick) none r x start)
        (last_started s.plan s.rings (rings_given s row) (fair s row tick) none r x start) own (starts_it s row tick r x start)
        (bounds.begins_green x (started_by s.plan s.rings (rings_given s row) r x start)) most

    red_after : (p : ℕ) → in_ring s.plan r p ≡ true → in_service (interval s p) ≡ false → starting s.plan s.rings (rings_given s row) r ≡ None →
        interval (after_moves s row) p ≡ Red
    red_after p own dark start =
        let red : interval s p ≡ Red = is-red (interval s p) dark in
        let no_start : is_started (moves s row) p ≡ false = starts_nothing s row tick r p own start in
        rw (no_start, red) refl

    less_back : (p m : ℕ) → in_ring s.plan r p ≡ true → is_green (interval s p) ≡ false → starting s.plan s.rings (rings_given s row) r ≡ None →
        back_left s.plan p (s.phases p) ≤ m → back_left s.plan p ((after_moves s row).phases p) ≤ m - 1
    less_back p m own dark start was =
        let down = reverts_down s row p (yellow_change s.plan p) (red_revert s.plan p) (omega arith) (tick.timed p) (ends_none s row tick p dark)
        (starts_nothing s row tick r p own start) in
        omega (arith, down, was)

    less_clear : (p : ℕ) → in_ring s.plan r p ≡ true → is_green (interval s p) ≡ false → starting s.plan s.rings (rings_given s row) r ≡ None →
        clear_left s.plan p ((after_moves s row).phases p) ≤ clear_left s.plan p (s.phases p) - 1
    less_clear p own dark start =
        clears_down s row p (yellow_change s.plan p) (red_clear s.plan p) (omega arith) (tick.timed p) dark (starts_nothing s row tick r p own start)

    last_then : starting s.plan s.rings (rings_given s row) r ≡ None → (after_moves s row).rings.last r ≡ s.rings.last r
    last_then start = last_stays s.plan s.rings (rings_given s row) (fair s row tick) none r start

    -- ## A ring that is committed

    bound_moves : (c m u : ℕ) → s.rings.commitment r ≡ Some c → ((p : ℕ) → in_ring s.plan r p ≡ true → clear_left s.plan p (s.phases p) ≤ m) →
        back_left s.plan c (s.phases c) ≤ m → longest c + m + 1 ≤ u → Goes_on At (Some c) u
    bound_moves c m u e clears_in reverts_in all =
        elim (starts_or_waits s.plan s.rings (rings_given s row) (fair s row tick) r c e) [
          | inl start ↦ starts_it_now c e (starts_it s row tick r c start) (omega (arith, all)) (starting_at c (u - 1) start (tick.good.rings.owned r c e).0 (omega (arith, all)))
          | inr both ↦ still both.0 both.1
        ]
      where
        dark_c : in_service (interval s c) ≡ false
        dark_c = tick.calm.fresh tick.outside r c e

        some_left : Delays s.plan s.rings (rings_given s row) (fair s row tick) r c → 1 ≤ m
        some_left (clearing p at_it h) =
            let both = served_is s row tick r p at_it in
            let left_p = not_yet_over s p (yellow_change s.plan p) (red_clear s.plan p) (omega arith) (omega arith) (tick.timed p) both.1
            (tick.calm.bound r c p e both.0) (sym (told_over s row tick p (tick.good.rings.listed p both.1)) ∙ h) in
            let was = clears_in p both.0 in
            omega (arith, left_p, was)
        some_left (reverting h) =
            let left_c = not_yet_reverted s c (yellow_change s.plan c) (red_revert s.plan c) (omega arith) (is-red (interval s c) dark_c)
            (sym (told_reverted s row tick c (tick.good.rings.owned r c e).1) ∙ h) in
            omega (arith, left_c, reverts_in)

        still : starting s.plan s.rings (rings_given s row) r ≡ None → Delays s.plan s.rings (rings_given s row) (fair s row tick) r c → Goes_on At (Some c) u
        still start delay =
            waits (omega (arith, all)) (promise_stays s.plan s.rings (rings_given s row) (fair s row tick) none r c start e ∙ sym e)
            (bound_to c (m - 1) (promise_stays s.plan s.rings (rings_given s row) (fair s row tick) none r c start e) refl
            (λ p own. (let down = less_clear p own (tick.calm.bound r c p e own) start in let was = clears_in p own in omega (arith, down, was)))
            (less_back c m (tick.good.rings.owned r c e).0 (dark_is (interval s c) dark_c) start reverts_in)
            (let some = some_left delay in omega (arith, all, some)))

    -- ## A ring that serves a green

    green_moves : (p n u : ℕ) → s.rings.commitment r ≡ None → in_ring s.plan r p ≡ true → interval s p ≡ Green → Lasts (view free s) p n → n ≤ u → Goes_on At (s.rings.last r) u
    green_moves p n u e own green lasts all = go (wants e idle_or_green) (ready s row p) refl
      where
        serves_p : in_service (interval s p) ≡ true
        serves_p = ap in_service green

        at_it : serving s.plan (rings_given s row) r ≡ Some p
        at_it = serves_it s row tick r p own serves_p

        idle_or_green : is_idle_or_green (rings_given s row) (serving s.plan (rings_given s row) r) ≡ true
        idle_or_green = rw at_it (given_green s row tick p green)

        start : starting s.plan s.rings (rings_given s row) r ≡ None
        start = starts_none s.plan s.rings (rings_given s row) (fair s row tick) r p e at_it

        no_start : is_started (moves s row) p ≡ false
        no_start = starts_nothing s row tick r p own start

        promise_then : (after_moves s row).rings.commitment r ≡ pick s.plan s.rings (rings_given s row) r
        promise_then = promise_made s.plan s.rings (rings_given s row) (fair s row tick) none r p start e at_it

        ready_is : (b : Bool) → ready s row p ≡ b → (rings_given s row).ready p ≡ b
        ready_is b f = told_ready s row tick p (tick.good.rings.listed p serves_p) ∙ f

        -- it stays Green
        on_then : is_ended (moves s row) p ≡ false → pick s.plan s.rings (rings_given s row) r ≡ None → At (s.rings.last r) (u - 1)
        on_then no_end picks =
            in_green p (n - 1) (promise_then ∙ picks) (last_then start) own (rw (no_start, green, no_end) refl)
            (bounds.goes_down p n green (pressed p own green) no_end no_start lasts) (omega (arith, all))

        -- it is not ready
        not_ready : ready s row p ≡ false → Goes_on At (s.rings.last r) u
        not_ready f =
            let no_end : is_ended (moves s row) p ≡ false = false_from_ne_true _ (λ g. true≢false (sym (ended_ready s row tick p g) ∙ ready_is false f)) in
            let some = bounds.not_yet p n green (pressed p own green) f lasts in
            let picks : pick s.plan s.rings (rings_given s row) r ≡ None = picks_unready s.plan s.rings (rings_given s row) r p at_it (ready_is false f) in
            waits (omega (arith, some, all)) (promise_then ∙ (picks ∙ sym e)) (on_then no_end picks)

        promise_to : (x : ℕ) → want_of s.plan s.rings (rings_given s row) r ≡ Some (Go x) → ready s row p ≡ true → (after_moves s row).rings.commitment r ≡ Some x
        promise_to x w f = promise_then ∙ picks_green s.plan s.rings (rings_given s row) (fair s row tick) r p x true at_it w (ready_is true f)

        -- it goes to another
        leaves_for : (x : ℕ) → want_of s.plan s.rings (rings_given s row) r ≡ Some (Go x) → Candidate s.plan s.rings (rings_given s row) (fair s row tick) r x →
            ready s row p ≡ true → At (Some x) (longest x + k + 1)
        leaves_for x w to f = bound_to x k (promise_to x w f) refl clears_in reverts_in (omega arith)
          where
            clears_in : (y : ℕ) → in_ring s.plan r y ≡ true → clear_left s.plan y ((after_moves s row).phases y) ≤ k
            clears_in y own_y = let most = clear_most s.plan y ((after_moves s row).phases y) in let limit = clears y in omega (arith, most, limit)

            dark_x : in_service (interval s x) ≡ false
            dark_x =
                elim (cases_Bool (in_service (interval s x))) [
                  | inr g ↦ g
                  | inl g ↦ (let one : x ≡ p = tick.good.rings.alone r x p to.ringed own g serves_p in
                      absurd (true≢false (sym (ap is_green green) ∙ ap (λ (y : ℕ). is_green (interval s y)) (sym one) ∙ callable_no_green s row x to.called)))
                ]

            reverts_in : back_left s.plan x ((after_moves s row).phases x) ≤ k
            reverts_in =
                let most = back_most s.plan x ((after_moves s row).phases x) (red_after x to.ringed dark_x start) in
                let limit = reverts x in
                omega (arith, most, limit)

        go : Wants → (b : Bool) → ready s row p ≡ b → Goes_on At (s.rings.last r) u
        go (wants_on x g w) true f =
            on_to x (longest x + k + 1) e g (inl (promise_to x w f)) (leaves_for x w (head (later (s.rings.last r) (order_of (view free s) r)) x g) f) (omega arith)
        go (wants_home x l a g w) true f =
            home_to x (longest x + k + 1) e l a g (inl (promise_to x w f)) (leaves_for x w (head (not_later (s.rings.last r) (order_of (view free s) r)) x g) f) (omega arith)
        go (wants_across l a w) true f =
            at_barrier e l a (on_then (ended_none s row p (cross_keeps s.plan s.rings (rings_given s row) r p own w none)) (picks_cross s.plan s.rings (rings_given s row) r w))
            (joins_green s.plan s.rings (rings_given s row) r p at_it (interval-as-told s row p ∙ green) (ready_is true f) w) w
        go (wants_rest l a g w) true f = rests e l a g
        go x false f = not_ready f

    -- ## A ring that is idle

    rest_moves : (m u : ℕ) → s.rings.commitment r ≡ None → ((p : ℕ) → in_ring s.plan r p ≡ true → in_service (interval s p) ≡ false) →
        ((p : ℕ) → in_ring s.plan r p ≡ true → back_left s.plan p (s.phases p) ≤ m) → m ≤ u → Goes_on At (s.rings.last r) u
    rest_moves m u e dark reverts_in all = go (wants e (rw at_none refl))
      where
        at_none : serving s.plan (rings_given s row) r ≡ None
        at_none = serves_none s row tick r dark

        start_is : starting s.plan s.rings (rings_given s row) r ≡ pick s.plan s.rings (rings_given s row) r
        start_is = starts_picked s.plan s.rings (rings_given s row) (fair s row tick) r e at_none

        -- it stays idle
        on_then : starting s.plan s.rings (rings_given s row) r ≡ None → At (s.rings.last r) (u - 1)
        on_then start =
            at_rest (m - 1) (none_promised s.plan s.rings (rings_given s row) (fair s row tick) none r start e at_none) (last_then start)
            (λ p own. ap in_service (red_after p own (dark p own) start))
            (λ p own. less_back p m own (dark_is (interval s p) (dark p own)) start (reverts_in p own))
            (omega (arith, all))

        told : (x : ℕ) (b : Bool) → Candidate s.plan s.rings (rings_given s row) (fair s row tick) r x → reverted s x ≡ b → (rings_given s row).reverted x ≡ b
        told x b to f = told_reverted s row tick x (listed s tick.good x ((fair s row tick).called_on x to.called)) ∙ f

        start_of : (x : ℕ) → want_of s.plan s.rings (rings_given s row) r ≡ Some (Go x) → Candidate s.plan s.rings (rings_given s row) (fair s row tick) r x → reverted s x ≡ true →
            starting s.plan s.rings (rings_given s row) r ≡ Some x
        start_of x w to f = start_is ∙ picks_idle s.plan s.rings (rings_given s row) (fair s row tick) r x true at_none w (told x true to f)

        starts : (x : ℕ) → want_of s.plan s.rings (rings_given s row) r ≡ Some (Go x) → Candidate s.plan s.rings (rings_given s row) (fair s row tick) r x → reverted s x ≡ true →
            At (Some x) (longest x)
        starts x w to f =
            starting_at x (longest x) (start_of x w to f) to.ringed (omega arith)

        not_reverted : (x : ℕ) → want_of s.plan s.rings (rings_given s row) r ≡ Some (Go x) → Candidate s.plan s.rings (rings_given s row) (fair s row tick) r x → reverted s x ≡ false →
            Goes_on At (s.rings.last r) u
        not_reverted x w to f =
            let left_x = not_yet_reverted s x (yellow_change s.plan x) (red_revert s.plan x) (omega arith) (is-red (interval s x) (dark x to.ringed)) f in
            let was = reverts_in x to.ringed in
            let start : starting s.plan s.rings (rings_given s row) r ≡ None =
            start_is ∙ picks_idle s.plan s.rings (rings_given s row) (fair s row tick) r x false at_none w (told x false to f) in
            waits (omega (arith, left_x, was, all)) (none_promised s.plan s.rings (rings_given s row) (fair s row tick) none r start e at_none ∙ sym e) (on_then start)

        to_on : (x : ℕ) → first test (later (s.rings.last r) (order_of (view free s) r)) ≡ Some x → want_of s.plan s.rings (rings_given s row) r ≡ Some (Go x) →
            Candidate s.plan s.rings (rings_given s row) (fair s row tick) r x → (b : Bool) → reverted s x ≡ b → Goes_on At (s.rings.last r) u
        to_on x l w to true f = on_to x (longest x) e l (inr (starts_it s row tick r x (start_of x w to f))) (starts x w to f) (omega arith)
        to_on x l w to false f = not_reverted x w to f

        to_home : (x : ℕ) → first test (later (s.rings.last r) (order_of (view free s) r)) ≡ None → away ≡ false → first test (not_later (s.rings.last r) (order_of (view free s) r)) ≡ Some x →
            want_of s.plan s.rings (rings_given s row) r ≡ Some (Go x) → Candidate s.plan s.rings (rings_given s row) (fair s row tick) r x → (b : Bool) → reverted s x ≡ b →
            Goes_on At (s.rings.last r) u
        to_home x l a g w to true f = home_to x (longest x) e l a g (inr (starts_it s row tick r x (start_of x w to f))) (starts x w to f) (omega arith)
        to_home x l a g w to false f = not_reverted x w to f

        go : Wants → Goes_on At (s.rings.last r) u
        go (wants_on x l w) = to_on x l w (head (later (s.rings.last r) (order_of (view free s) r)) x l) (reverted s x) refl
        go (wants_home x l a g w) = to_home x l a g w (head (not_later (s.rings.last r) (order_of (view free s) r)) x g) (reverted s x) refl
        go (wants_across l a w) =
            at_barrier e l a (on_then (start_is ∙ picks_cross s.plan s.rings (rings_given s row) r w)) (joins_idle s.plan s.rings (rings_given s row) r at_none w) w
        go (wants_rest l a g w) = rests e l a g

    -- ## A ring that clears with no commitment

    abbrev Near : Option ℕ → ℕ → Type 0
    Near o u = IsNear longest Lasts (view free (after_moves s row)) r o u

    clearing_moves : (p m u : ℕ) → s.rings.commitment r ≡ None → in_ring s.plan r p ≡ true → in_service (interval s p) ≡ true → is_green (interval s p) ≡ false →
        ((x : ℕ) → in_ring s.plan r x ≡ true → clear_left s.plan x (s.phases x) + 1 ≤ m) →
        ((x : ℕ) → in_ring s.plan r x ≡ true → back_left s.plan x (s.phases x) ≤ m) → m ≤ u → Goes_on Near (s.rings.last r) u
    clearing_moves p m u e own serves dark clears_in reverts_in all = go (over s p) refl
      where
        at_it : serving s.plan (rings_given s row) r ≡ Some p
        at_it = serves_it s row tick r p own serves

        start : starting s.plan s.rings (rings_given s row) r ≡ None
        start = starts_none s.plan s.rings (rings_given s row) (fair s row tick) r p e at_it

        dark_given : is_green ((rings_given s row).interval p) ≡ false
        dark_given = ap is_green (interval-as-told s row p) ∙ dark

        promise : (after_moves s row).rings.commitment r ≡ None
        promise =
            promise_made s.plan s.rings (rings_given s row) (fair s row tick) none r p start e at_it
            ∙ picks_clearing s.plan s.rings (rings_given s row) r p at_it dark_given

        -- the others of its ring are Red
        others : (x : ℕ) → in_ring s.plan r x ≡ true → (x ≡ p) ⊎ (in_service (interval s x) ≡ false)
        others x own_x =
            elim (cases_Bool (in_service (interval s x))) [
              | inl g ↦ inl (tick.good.rings.alone r x p own_x own g serves)
              | inr g ↦ inr g
            ]

        dark_all : (x : ℕ) → in_ring s.plan r x ≡ true → is_green (interval s x) ≡ false
        dark_all x own_x =
            elim (others x own_x) [
              | inl same ↦ ap (λ (y : ℕ). is_green (interval s y)) same ∙ dark
              | inr g ↦ dark_is (interval s x) g
            ]

        lower_back : (x : ℕ) → in_ring s.plan r x ≡ true → back_left s.plan x ((after_moves s row).phases x) ≤ m - 1
        lower_back x own_x = less_back x m own_x (dark_all x own_x) start (reverts_in x own_x)

        some : 1 ≤ m
        some = let was = clears_in p own in omega (arith, was)

        no_start : is_started (moves s row) p ≡ false
        no_start = starts_nothing s row tick r p own start

        -- it is over, and clears
        gone : over s p ≡ true → Near (s.rings.last r) (u - 1)
        gone f = settled (at_rest (m - 1) promise (last_then start) (λ x own_x. red_all x (others x own_x) own_x) lower_back (omega (arith, all)))
          where
            cleared : is_cleared (moves s row) p ≡ true
            cleared =
                cleared_is s row r p tick.good at_it
                (clears_over_one s.plan s.rings (rings_given s row) r p at_it own e none dark_given
                (told_over s row tick p (tick.good.rings.listed p serves) ∙ f))

            red_then : interval (after_moves s row) p ≡ Red
            red_then = cleared_red s row p dark no_start cleared

            red_all : (x : ℕ) → (x ≡ p) ⊎ (in_service (interval s x) ≡ false) → in_ring s.plan r x ≡ true → in_service (interval (after_moves s row) x) ≡ false
            red_all x (inl same) own_x = ap (λ (y : ℕ). in_service (interval (after_moves s row) y)) same ∙ ap in_service red_then
            red_all x (inr g) own_x = ap in_service (red_after x own_x g start)

        -- it goes on
        stays : over s p ≡ false → Near (s.rings.last r) (u - 1)
        stays f = clearing_out p (m - 1) promise (last_then start) own and_dark.0 and_dark.1 (λ x own_x. lower_clear x (others x own_x) own_x) lower_back (omega (arith, all))
          where
            not_cleared : is_cleared (moves s row) p ≡ false
            not_cleared =
                false_from_ne_true _ (λ g. true≢false (sym (cleared_over s row p g) ∙ told_over s row tick p (tick.good.rings.listed p serves) ∙ f))

            and_dark : (in_service (interval (after_moves s row) p) ≡ true) × (is_green (interval (after_moves s row) p) ≡ false)
            and_dark = still_clearing s row p serves dark no_start not_cleared

            left_p : 1 ≤ clear_left s.plan p (s.phases p)
            left_p = not_yet_over s p (yellow_change s.plan p) (red_clear s.plan p) (omega arith) (omega arith) (tick.timed p) serves dark f

            lower_clear : (x : ℕ) → (x ≡ p) ⊎ (in_service (interval s x) ≡ false) → in_ring s.plan r x ≡ true → clear_left s.plan x ((after_moves s row).phases x) + 1 ≤ m - 1
            lower_clear x (inl same) own_x =
                let down = less_clear x own_x (dark_all x own_x) start in
                let was = clears_in x own_x in
                let left_x : clear_left s.plan x (s.phases x) ≡ clear_left s.plan p (s.phases p) = ap (λ (y : ℕ). clear_left s.plan y (s.phases y)) same in
                omega (arith, down, was, left_x, left_p)
            lower_clear x (inr g) own_x =
                let zero_is = clear_none s.plan x (after_moves s row) (red_after x own_x g start) in
                let was = clears_in p own in
                omega (arith, zero_is, was, left_p)

        go : (b : Bool) → over s p ≡ b → Goes_on Near (s.rings.last r) u
        go true f = waits (omega (arith, some, all)) (promise ∙ sym e) (gone f)
        go false f = waits (omega (arith, some, all)) (promise ∙ sym e) (stays f)

    -- ## Whatever the ring does

    pub goes_on : (o : Option ℕ) (u : ℕ) → IsAt longest Lasts (view free s) r o u → Goes_on At o u
    goes_on o u (bound_to c m e same clears_in reverts_in all) = subst (λ (x : Option ℕ). Goes_on At x u) (sym same) (bound_moves c m u e clears_in reverts_in all)
    goes_on o u (in_green p n e same own green lasts all) = subst (λ (x : Option ℕ). Goes_on At x u) same (green_moves p n u e own green lasts all)
    goes_on o u (at_rest m e same dark reverts_in all) = subst (λ (x : Option ℕ). Goes_on At x u) same (rest_moves m u e dark reverts_in all)

    as_near : (o : Option ℕ) (u : ℕ) → Goes_on At o u → Goes_on Near o u
    as_near o u (on_to x w e l t it most) = on_to x w e l t it most
    as_near o u (home_to x w e l a g t it most) = home_to x w e l a g t it most
    as_near o u (starts_it_now c e green some it) = starts_it_now c e green some (settled it)
    as_near o u (waits some same it) = waits some same (settled it)
    as_near o u (at_barrier e l a it j w) = at_barrier e l a (settled it) j w
    as_near o u (rests e l a g) = rests e l a g

    pub goes_near : (o : Option ℕ) (u : ℕ) → IsNear longest Lasts (view free s) r o u → Goes_on Near o u
    goes_near o u (settled it) = as_near o u (goes_on o u it)
    goes_near o u (clearing_out p m e same own serves dark clears_in reverts_in all) =
        subst (λ (x : Option ℕ). Goes_on Near x u) same (clearing_moves p m u e own serves dark clears_in reverts_in all)
