-- One tick on the way of two rings to a phase that stays called: it leaves a tick less until that phase is Green. For
-- the laws that called phases are served, in free operation and in patterns.
use Rattle.std.proofs.Common.{◌≡◌, ◌≢◌, ℕ, ◌+◌, ◌-◌, ◌≤◌, Bool, true, false, List, Option, Some, None, refl, sym, ap, subst, ◌∙◌, inl, inr, ◌⊎◌, arith}
use Rattle.std.proofs.lemmas.Bool.{cases_eq, eq-eqb, true≢false}
use Rattle.tsb_step.specs.tsb_types.declared.interval.Interval.TheVariants.{Green}
use Rattle.tsb_step.specs.tsb_types.declared.row.Row.{Row}
use Rattle.tsb_step.specs.tsb_types.Intervals.{in_service}
use Rattle.tsb_step.specs.tsb_types.Lists.{first, among, later, not_later}
use Rattle.tsb_step.specs.tsb_plan.Plan.{is_enabled, side_of, yellow_change, red_clear, red_revert}
use Rattle.tsb_step.specs.tsb_ring.declared.want.Want.TheVariants.{Cross}
use Rattle.tsb_step.specs.tsb_ring.Rings.{Ring, Ring1, Ring2, other, in_ring, serving}
use Rattle.tsb_step.specs.tsb_ring.Wants.{is_candidate, is_called_elsewhere, is_idle_or_green, picked_before, want_of}
use Rattle.tsb_step.specs.tsb_ring.Crossings.{ring_joins, begins}
use Rattle.tsb_step.proofs.tsb_ring.WantLemmas.{first-among}
use Rattle.tsb_step.specs.State.{State, interval}
use Rattle.tsb_step.specs.Tick.{callable, conflict, rings_given, after_moves}
use Rattle.tsb_laws.specs.ServedCalls.{times_on, place}
use Rattle.tsb_laws.proofs.safety.EnabledLemmas.{callable_on}
use Rattle.tsb_laws.proofs.safety.SideSoughtLemmas.{none_first}
use Rattle.tsb_laws.proofs.safety.AllRedRingLemmas.{later_or_not}
use Rattle.tsb_laws.proofs.operation.step.TurnListLemmas.{still_later}
use Rattle.tsb_laws.proofs.operation.step.TurnRingLemmas.{Candidate, candidate, goes_on as goes_for, Goes, none_begins, none_begins_bound, stays_outside, stays_beside}
use Rattle.tsb_laws.proofs.operation.barrier.BarrierWishLemmas.{begins_now}
use Rattle.tsb_laws.proofs.operation.barrier.CoordinatedBarrierLemmas.{begins_when}
use Rattle.tsb_laws.proofs.operation.barrier.SideSumLemmas.{IsSide}
use Rattle.tsb_laws.proofs.operation.calls.RingPlaceLemmas.{View, view, order_of, times_later, later_most, again_or_later, IsAt, bound_to, in_green, at_rest, IsNear, settled}
use Rattle.tsb_laws.proofs.operation.step.OpenTickLemmas.{callable_told, IsOpenTick, fair, listed, some_phase, once, in_order, serves_it, serves_none, given_green, pressed_beside, pressed_across, called_away}
use Rattle.tsb_laws.proofs.operation.calls.RingStepLemmas.{BoundsGreens, Goes_on, on_to, home_to, starts_it_now, waits, at_barrier, rests, head, goes_on, goes_near}
use Rattle.tsb_laws.proofs.operation.calls.WayStageLemmas.{turn_of, begun, beside, across, passing, abroad, Beyond, Stage, arrived, coming, passed, at_gate, away_from}

-- a tick less of what is left, and so there was one
pub record LessFor (Left : ℕ → Type 0) (n : ℕ) : Type 0 where
  pub some : 1 ≤ n
  pub stage : Left (n - 1)

none_or_some : (n : ℕ) → (n ≡ 0) ⊎ (1 ≤ n)
none_or_some n = elim (cases_eq n 0) [ inl z ↦ inl z | inr other ↦ inr (omega (arith, other)) ]

module _ (free : Bool) (longest : ℕ → ℕ) (Lasts : View → ℕ → ℕ → Type 0) (k h : ℕ) (r : Ring) (c : ℕ) (s : State) (row : Row) (tick : IsOpenTick s row) (bounds : BoundsGreens free longest Lasts s row)
    (clears : (p : ℕ) → yellow_change s.plan p + red_clear s.plan p ≤ k) (reverts : (p : ℕ) → red_revert s.plan p ≤ k) (own : in_ring s.plan r c ≡ true)
    (enabled : is_enabled s.plan c ≡ true) (called : callable s row c ≡ true) where
  abbrev pub Nearer : ℕ → Type 0
  Nearer left = LessFor (λ n. Stage longest Lasts k h r c (view free (after_moves s row)) n) left

  told : (rings_given s row).callable c ≡ true
  told = callable_told s row c tick.few (listed s tick.good c enabled) called

  abbrev test : Ring → ℕ → Bool
  test x = is_candidate s.plan s.rings (rings_given s row) x (picked_before s.plan s.rings (rings_given s row) x)

  -- ## No crossing begins while c is to come

  pub not_begun : (o : Option ℕ) (u : ℕ) → IsAt longest Lasts (view free s) r o u → side_of s.plan c ≡ s.rings.side →
      (s.rings.commitment r ≡ Some c) ⊎ (among c (later o (order_of (view free s) r)) ≡ true) → begins s.plan s.rings (rings_given s row) ≡ false
  not_begun o u it here (inl mine) = none_begins_bound s.plan s.rings (rings_given s row) (fair s row tick) r c mine
  not_begun o u (bound_to q m e same clears_in reverts_in all) here (inr there) = none_begins_bound s.plan s.rings (rings_given s row) (fair s row tick) r q e
  not_begun o u (in_green p n e same own_p green lasts all) here (inr there) =
      let idle : is_idle_or_green (rings_given s row) (serving s.plan (rings_given s row) r) ≡ true = rw (serves_it s row tick r p own_p (ap in_service green)) (given_green s row tick p green) in
      let it : Goes s.plan s.rings (rings_given s row) (fair s row tick) r =
      goes_for s.plan s.rings (rings_given s row) (fair s row tick) r c own here told
      (ap (λ (l : List ℕ). among c (later (s.rings.last r) l)) (bounds.sequenced r) ∙ (ap (λ (x : Option ℕ). among c (later x (order_of (view free s) r))) same ∙ there)) e idle in
      none_begins s.plan s.rings (rings_given s row) (fair s row tick) r it.one it.wanted idle
  not_begun o u (at_rest m e same dark reverts_in all) here (inr there) =
      let idle : is_idle_or_green (rings_given s row) (serving s.plan (rings_given s row) r) ≡ true = rw (serves_none s row tick r dark) refl in
      let it : Goes s.plan s.rings (rings_given s row) (fair s row tick) r =
      goes_for s.plan s.rings (rings_given s row) (fair s row tick) r c own here told
      (ap (λ (l : List ℕ). among c (later (s.rings.last r) l)) (bounds.sequenced r) ∙ (ap (λ (x : Option ℕ). among c (later x (order_of (view free s) r))) same ∙ there)) e idle in
      none_begins s.plan s.rings (rings_given s row) (fair s row tick) r it.one it.wanted idle

  -- ## A tick in which none begins

  module _ (none : begins s.plan s.rings (rings_given s row) ≡ false) where
    side_then : (after_moves s row).rings.side ≡ s.rings.side
    side_then = stays_beside s.plan s.rings (rings_given s row) (fair s row tick) none

    pub out_then : (after_moves s row).rings.crossing ≡ None
    out_then = stays_outside s.plan s.rings (rings_given s row) (fair s row tick) none

    pressed : (p : ℕ) → in_ring s.plan r p ≡ true → interval s p ≡ Green → conflict s row p ≡ true
    pressed p own_p green = pressed_beside s row tick r p c own_p own enabled called green

    -- what a ring goes on to later
    record Fewer (x : Ring) (time : ℕ → ℕ) (o : Option ℕ) (y : ℕ) : Type 0 where
      enabled_too : is_enabled s.plan y ≡ true
      fewer : time y + times_on time s.plan s.rings.side (later (Some y) (order_of (view free s) x)) ≤ times_on time s.plan s.rings.side (later o (order_of (view free s) x))

    goes_later : (x : Ring) (time : ℕ → ℕ) (o : Option ℕ) (y : ℕ) → Candidate s.plan s.rings (rings_given s row) (fair s row tick) x y →
        among y (later o (order_of (view free s) x)) ≡ true → Fewer x time o y
    goes_later x time o y it there =
        let on : is_enabled s.plan y ≡ true = callable_on s row y it.called in
        record {
          enabled_too = on;
          fewer = times_later time s.plan s.rings.side o y (order_of (view free s) x) (some_phase s tick.good y on) (once free s tick.good x) (eq-eqb (side_of s.plan y) s.rings.side it.here) there;
        }

    module _ (here : side_of s.plan c ≡ s.rings.side) where
      its_side : (after_moves s row).rings.side ≡ side_of s.plan c
      its_side = side_then ∙ sym here

      passes : test r c ≡ true
      passes = candidate s.plan s.rings (rings_given s row) (fair s row tick) r c own here told

      at_side : (time : ℕ → ℕ) (l : List ℕ) → times_on time s.plan s.rings.side l ≡ times_on time s.plan (side_of s.plan c) l
      at_side time l = ap (λ (d : ℕ). times_on time s.plan d l) (sym here)

      listed_it : among c (order_of (view free s) r) ≡ true
      listed_it = in_order free s tick.good r c own enabled

      -- the ring goes to x: it is c, or c comes later
      heads_for : (x w left : ℕ) → ((after_moves s row).rings.commitment r ≡ Some x) ⊎ (interval (after_moves s row) x ≡ Green) → IsAt longest Lasts (view free (after_moves s row)) r (Some x) w →
          (x ≡ c) ⊎ (among c (later (Some x) (order_of (view free s) r)) ≡ true) →
          w + times_on (turn_of longest Lasts k h r c) s.plan (side_of s.plan c) (later (Some x) (order_of (view free s) r)) ≤ left →
          Stage longest Lasts k h r c (view free (after_moves s row)) left
      heads_for x w left (inl promise) it (inl same) all = coming (Some x) w it its_side out_then (inl (promise ∙ ap Some same)) all
      heads_for x w left (inr green) it (inl same) all = arrived (ap (λ (y : ℕ). interval (after_moves s row) y) (sym same) ∙ green)
      heads_for x w left taken it (inr rest) all = coming (Some x) w it its_side out_then (inr rest) all

      -- home, where c does not come later
      goes_home : (o : Option ℕ) (x w : ℕ) (left : ℕ) → first (test r) (later o (order_of (view free s) r)) ≡ None → first (test r) (not_later o (order_of (view free s) r)) ≡ Some x →
          Candidate s.plan s.rings (rings_given s row) (fair s row tick) r x → ((after_moves s row).rings.commitment r ≡ Some x) ⊎ (interval (after_moves s row) x ≡ Green) →
          IsAt longest Lasts (view free (after_moves s row)) r (Some x) w → w ≤ longest x + k + 1 → beside longest Lasts k h r c (view free s) ≤ left + 1 →
          Stage longest Lasts k h r c (view free (after_moves s row)) left
      goes_home o x w left l g to taken it most all =
          heads_for x w left taken it
          (elim (later_or_not o c (order_of (view free s) r) listed_it) [
            | inl there ↦ absurd (none_first (test r) (later o (order_of (view free s) r)) c there passes l)
            | inr there ↦ again_or_later (test r) o x c (order_of (view free s) r) g there passes
          ])
          (let on = at_side (turn_of longest Lasts k h r c) (later (Some x) (order_of (view free s) r)) in
          let whole = at_side (turn_of longest Lasts k h r c) (order_of (view free s) r) in
          let it = goes_later r (turn_of longest Lasts k h r c) None x to (in_order free s tick.good r x to.ringed (callable_on s row x to.called)) in
          let fewer = it.fewer in
          omega (arith, on, whole, fewer, most, all))

      -- nothing is left to go to but c
      never_rests : (o : Option ℕ) → first (test r) (later o (order_of (view free s) r)) ≡ None → first (test r) (not_later o (order_of (view free s) r)) ≡ None → ⊥
      never_rests o l g =
          elim (later_or_not o c (order_of (view free s) r) listed_it) [
            | inl there ↦ none_first (test r) (later o (order_of (view free s) r)) c there passes l
            | inr there ↦ none_first (test r) (not_later o (order_of (view free s) r)) c there passes g
          ]

      -- ## c is to come

      pub coming_tick : (left : ℕ) (o : Option ℕ) (u : ℕ) → IsAt longest Lasts (view free s) r o u → (s.rings.commitment r ≡ Some c) ⊎ (among c (later o (order_of (view free s) r)) ≡ true) →
          u + times_on (turn_of longest Lasts k h r c) s.plan (side_of s.plan c) (later o (order_of (view free s) r)) ≤ left → Nearer left
      coming_tick left o u at ahead all = go ahead (goes_on free longest Lasts s row tick bounds none k clears reverts r pressed o u at)
        where
          sums : (l : List ℕ) → times_on (turn_of longest Lasts k h r c) s.plan s.rings.side l ≡ times_on (turn_of longest Lasts k h r c) s.plan (side_of s.plan c) l
          sums l = at_side (turn_of longest Lasts k h r c) l

          on : (x w : ℕ) → first (test r) (later o (order_of (view free s) r)) ≡ Some x → ((after_moves s row).rings.commitment r ≡ Some x) ⊎ (interval (after_moves s row) x ≡ Green) →
              IsAt longest Lasts (view free (after_moves s row)) r (Some x) w → w ≤ longest x + k + 1 → among c (later o (order_of (view free s) r)) ≡ true → Nearer left
          on x w l taken it most there =
              let to = head free longest Lasts s row tick bounds none k clears reverts r pressed (later o (order_of (view free s) r)) x l in
              let is_later = first-among (test r) (later o (order_of (view free s) r)) x l in
              let less = goes_later r (turn_of longest Lasts k h r c) o x to is_later in
              let fewer = less.fewer in
              let before = sums (later o (order_of (view free s) r)) in
              let after = sums (later (Some x) (order_of (view free s) r)) in
              record {
                some = omega (arith, fewer, before, all);
                stage = heads_for x w (left - 1) taken it
                    (still_later (test r) o x c (order_of (view free s) r) (some_phase s tick.good x less.enabled_too) (once free s tick.good r) l is_later there passes)
                    (omega (arith, fewer, before, after, all, most));
              }

          bad : s.rings.commitment r ≡ Some c → s.rings.commitment r ≡ None → ⊥
          bad mine e = let wrong : None ≡ Some c = sym e ∙ mine in cc

          go : (s.rings.commitment r ≡ Some c) ⊎ (among c (later o (order_of (view free s) r)) ≡ true) →
              Goes_on free longest Lasts s row tick bounds none k clears reverts r pressed (λ x w. IsAt longest Lasts (view free (after_moves s row)) r x w) o u → Nearer left
          go (inl mine) (on_to x w e l taken it most) = absurd (bad mine e)
          go (inr there) (on_to x w e l taken it most) = on x w l taken it most there
          go (inl mine) (home_to x w e l a g taken it most) = absurd (bad mine e)
          go (inr there) (home_to x w e l a g taken it most) = absurd (none_first (test r) (later o (order_of (view free s) r)) c there passes l)
          go (inl mine) (starts_it_now q e green some it) =
              let both : Some q ≡ Some c = sym e ∙ mine in let same : q ≡ c = cc in
              record { some = omega (arith, some, all); stage = arrived (ap (λ (y : ℕ). interval (after_moves s row) y) (sym same) ∙ green) }
          go (inr there) (starts_it_now q e green some it) =
              record { some = omega (arith, some, all); stage = coming o (u - 1) it its_side out_then (inr there) (omega (arith, some, all)) }
          go (inl mine) (waits some same it) =
              record { some = omega (arith, some, all); stage = coming o (u - 1) it its_side out_then (inl (same ∙ mine)) (omega (arith, some, all)) }
          go (inr there) (waits some same it) =
              record { some = omega (arith, some, all); stage = coming o (u - 1) it its_side out_then (inr there) (omega (arith, some, all)) }
          go (inl mine) (at_barrier e l a it j w) = absurd (bad mine e)
          go (inr there) (at_barrier e l a it j w) = absurd (none_first (test r) (later o (order_of (view free s) r)) c there passes l)
          go (inl mine) (rests e l a g) = absurd (bad mine e)
          go (inr there) (rests e l a g) = absurd (none_first (test r) (later o (order_of (view free s) r)) c there passes l)

      -- ## The rings are anywhere on its side

      abbrev waiting : ℕ → ℕ
      waiting p = turn_of longest Lasts k h r c p + across longest Lasts k h r c (view free s) + 1

      -- the ring goes on to a later phase
      further : (left : ℕ) (o : Option ℕ) (x w : ℕ) → first (test r) (later o (order_of (view free s) r)) ≡ Some x → IsAt longest Lasts (view free (after_moves s row)) r (Some x) w → w ≤ longest x + k + 1 →
          passing longest Lasts k h r c (view free s) o + abroad longest Lasts k h r c (view free s) (side_of s.plan c) ≤ left → Nearer left
      further left o x w l it most all =
          let to = head free longest Lasts s row tick bounds none k clears reverts r pressed (later o (order_of (view free s) r)) x l in
          let less = goes_later r waiting o x to (first-among (test r) (later o (order_of (view free s) r)) x l) in
          let fewer = less.fewer in
          let before = at_side waiting (later o (order_of (view free s) r)) in
          let after = at_side waiting (later (Some x) (order_of (view free s) r)) in
          record {
            some = omega (arith, all);
            stage = passed (Some x) w (settled it) its_side out_then (omega (arith, fewer, before, after, most, all));
          }

      pub passed_tick : (left : ℕ) (o : Option ℕ) (u : ℕ) → IsNear longest Lasts (view free s) r o u → ((x : Ring) → IsNear longest Lasts (view free (after_moves s row)) x (place (after_moves s row) x) (begun longest Lasts k h r c)) →
          u + 1 + across longest Lasts k h r c (view free s) + passing longest Lasts k h r c (view free s) o + abroad longest Lasts k h r c (view free s) (side_of s.plan c) ≤ left → Nearer left
      passed_tick left o u at places all = go (goes_near free longest Lasts s row tick bounds none k clears reverts r pressed o u at)
        where
          less : 1 ≤ u → IsNear longest Lasts (view free (after_moves s row)) r o (u - 1) → Nearer left
          less some it = record { some = omega (arith, all); stage = passed o (u - 1) it its_side out_then (omega (arith, some, all)) }

          gate : u ≡ 0 → IsNear longest Lasts (view free (after_moves s row)) r o (u - 1) → Nearer left
          gate none_left it =
              let most = later_most (turn_of longest Lasts k h r c) s.plan (side_of s.plan c) (place (after_moves s row) (other r)) (order_of (view free s) (other r)) in
              record {
                some = omega (arith, all);
                stage = at_gate o (place (after_moves s row) (other r)) (begun longest Lasts k h r c) (subst (λ (n : ℕ). IsNear longest Lasts (view free (after_moves s row)) r o (n - 1)) none_left it) (places (other r)) its_side out_then
                    (omega (arith, most, all, none_left));
              }

          go : Goes_on free longest Lasts s row tick bounds none k clears reverts r pressed (λ x w. IsNear longest Lasts (view free (after_moves s row)) r x w) o u → Nearer left
          go (on_to x w e l taken it most) = further left o x w l it most (omega (arith, all))
          go (home_to x w e l a g taken it most) =
              record { some = omega (arith, all); stage = goes_home o x w (left - 1) l g (head free longest Lasts s row tick bounds none k clears reverts r pressed (not_later o (order_of (view free s) r)) x g) taken it most (omega (arith, all)) }
          go (starts_it_now q e green some it) = less some it
          go (waits some same it) = less some it
          go (at_barrier e l a it j w) = elim (none_or_some u) [ inl z ↦ gate z it | inr some ↦ less some it ]
          go (rests e l a g) = absurd (never_rests o l g)

      -- ## The ring waits at the barrier

      pub gate_tick : (left : ℕ) (o x : Option ℕ) (w : ℕ) → IsNear longest Lasts (view free s) r o 0 → IsNear longest Lasts (view free s) (other r) x w →
          w + times_on (turn_of longest Lasts k h r c) s.plan (side_of s.plan c) (later x (order_of (view free s) (other r))) + passing longest Lasts k h r c (view free s) o
          + abroad longest Lasts k h r c (view free s) (side_of s.plan c) ≤ left → Nearer left
      gate_tick left o x w at beyond all = go (goes_near free longest Lasts s row tick bounds none k clears reverts r pressed o 0 at)
        where
          -- the other ring, while this one wants to cross
          other_ring : IsNear longest Lasts (view free (after_moves s row)) r o 0 → is_called_elsewhere s.plan s.rings (rings_given s row) ≡ true →
              ring_joins s.plan s.rings (rings_given s row) r ≡ true → want_of s.plan s.rings (rings_given s row) r ≡ Some Cross → Nearer left
          other_ring it a j wish = by (goes_near free longest Lasts s row tick bounds none k clears reverts (other r) pressed_too x w beyond)
            where
              pressed_too : (p : ℕ) → in_ring s.plan (other r) p ≡ true → interval s p ≡ Green → conflict s row p ≡ true
              pressed_too p own_p green = pressed_across s row tick a p green

              less : 1 ≤ w → IsNear longest Lasts (view free (after_moves s row)) (other r) x (w - 1) → Nearer left
              less some of = record { some = omega (arith, some, all); stage = at_gate o x (w - 1) it of its_side out_then (omega (arith, some, all)) }

              by : Goes_on free longest Lasts s row tick bounds none k clears reverts (other r) pressed_too (λ y n. IsNear longest Lasts (view free (after_moves s row)) (other r) y n) x w → Nearer left
              by (on_to y n e l taken of most) =
                  let to = head free longest Lasts s row tick bounds none k clears reverts (other r) pressed_too (later x (order_of (view free s) (other r))) y l in
                  let fewer_is = goes_later (other r) (turn_of longest Lasts k h r c) x y to (first-among (test (other r)) (later x (order_of (view free s) (other r))) y l) in
                  let fewer = fewer_is.fewer in
                  let before = at_side (turn_of longest Lasts k h r c) (later x (order_of (view free s) (other r))) in
                  let after = at_side (turn_of longest Lasts k h r c) (later (Some y) (order_of (view free s) (other r))) in
                  record {
                    some = omega (arith, fewer, before, all);
                    stage = at_gate o (Some y) n it (settled of) its_side out_then (omega (arith, fewer, before, after, most, all));
                  }
              by (home_to y n e l b g taken of most) = absurd (true≢false (sym a ∙ b))
              by (starts_it_now q e green some of) = less some of
              by (waits some same of) = less some of
              by (at_barrier e l b of i v) =
                  absurd (true≢false (sym (begins_when s.plan s.rings (rings_given s row) (fair s row tick) r j i wish) ∙ none))
              by (rests e l b g) = absurd (true≢false (sym a ∙ b))

          go : Goes_on free longest Lasts s row tick bounds none k clears reverts r pressed (λ y n. IsNear longest Lasts (view free (after_moves s row)) r y n) o 0 → Nearer left
          go (on_to y n e l taken it most) = further left o y n l it most (omega (arith, all))
          go (home_to y n e l a g taken it most) =
              record { some = omega (arith, all); stage = goes_home o y n (left - 1) l g (head free longest Lasts s row tick bounds none k clears reverts r pressed (not_later o (order_of (view free s) r)) y g) taken it most (omega (arith, all)) }
          go (starts_it_now q e green some it) = absurd (omega (arith, some))
          go (waits some same it) = absurd (omega (arith, some))
          go (at_barrier e l a it j wish) = other_ring it a j wish
          go (rests e l a g) = absurd (never_rests o l g)

    -- ## The rings are on another side

    module _ (d : ℕ) (there : s.rings.side ≡ d) (far : d ≢ side_of s.plan c) where
      away : is_called_elsewhere s.plan s.rings (rings_given s row) ≡ true
      away = called_away s row tick c enabled called (λ same. far (sym there ∙ sym same))

      abbrev still : Ring → Option ℕ → ℕ
      still x o = times_on (turn_of longest Lasts k h r c) s.plan d (later o (order_of (view free s) x))

      -- a ring has a tick less to go, or joins and wants to cross
      data Gets (x : Ring) (o : Option ℕ) (u : ℕ) : Type 0 where
        nearer_to : (y : Option ℕ) (w : ℕ) → IsNear longest Lasts (view free (after_moves s row)) x y w → w + still x y + 1 ≤ u + still x o → Gets x o u
        joins : IsNear longest Lasts (view free (after_moves s row)) x o (u - 1) → ring_joins s.plan s.rings (rings_given s row) x ≡ true →
            want_of s.plan s.rings (rings_given s row) x ≡ Some Cross → Gets x o u

      gets : (x : Ring) (o : Option ℕ) (u : ℕ) → IsNear longest Lasts (view free s) x o u → Gets x o u
      gets x o u at = by (goes_near free longest Lasts s row tick bounds none k clears reverts x pressed_too o u at)
        where
          pressed_too : (p : ℕ) → in_ring s.plan x p ≡ true → interval s p ≡ Green → conflict s row p ≡ true
          pressed_too p own_p green = pressed_across s row tick away p green

          by : Goes_on free longest Lasts s row tick bounds none k clears reverts x pressed_too (λ y n. IsNear longest Lasts (view free (after_moves s row)) x y n) o u → Gets x o u
          by (on_to y n e l taken of most) =
              let to = head free longest Lasts s row tick bounds none k clears reverts x pressed_too (later o (order_of (view free s) x)) y l in
              let fewer_is = goes_later x (turn_of longest Lasts k h r c) o y to (first-among (test x) (later o (order_of (view free s) x)) y l) in
              let fewer = fewer_is.fewer in
              let before : times_on (turn_of longest Lasts k h r c) s.plan s.rings.side (later o (order_of (view free s) x)) ≡ still x o =
              ap (λ (e : ℕ). times_on (turn_of longest Lasts k h r c) s.plan e (later o (order_of (view free s) x))) there in
              let after : times_on (turn_of longest Lasts k h r c) s.plan s.rings.side (later (Some y) (order_of (view free s) x)) ≡ still x (Some y) =
              ap (λ (e : ℕ). times_on (turn_of longest Lasts k h r c) s.plan e (later (Some y) (order_of (view free s) x))) there in
              nearer_to (Some y) n (settled of) (omega (arith, fewer, before, after, most))
          by (home_to y n e l b g taken of most) = absurd (true≢false (sym away ∙ b))
          by (starts_it_now q e green some of) = nearer_to o (u - 1) of (omega (arith, some))
          by (waits some same of) = nearer_to o (u - 1) of (omega (arith, some))
          by (at_barrier e l b of i v) = joins of i v
          by (rests e l b g) = absurd (true≢false (sym away ∙ b))

      -- both rings have a tick less to go
      pub beyond_tick : (n : ℕ) → Beyond longest Lasts k h r c (view free s) d n → LessFor (λ m. Beyond longest Lasts k h r c (view free (after_moves s row)) d m) n
      beyond_tick n was = go (gets Ring1 was.first_place was.first_ticks was.first) (gets Ring2 was.second_place was.second_ticks was.second)
        where
          made : (a b : Option ℕ) (m w : ℕ) → IsNear longest Lasts (view free (after_moves s row)) Ring1 a m → IsNear longest Lasts (view free (after_moves s row)) Ring2 b w →
              m + still Ring1 a + (w + still Ring2 b) + 1 ≤ was.first_ticks + still Ring1 was.first_place + (was.second_ticks + still Ring2 was.second_place) →
              LessFor (λ m. Beyond longest Lasts k h r c (view free (after_moves s row)) d m) n
          made a b m w first second fewer =
              let all = was.all in
              record {
                some = omega (arith, fewer, all);
                stage = record {
                  first_place = a;
                  first_ticks = m;
                  second_place = b;
                  second_ticks = w;
                  first = first;
                  second = second;
                  there = side_then ∙ there;
                  all = omega (arith, fewer, all);
                };
              }

          go : Gets Ring1 was.first_place was.first_ticks → Gets Ring2 was.second_place was.second_ticks → LessFor (λ m. Beyond longest Lasts k h r c (view free (after_moves s row)) d m) n
          go (nearer_to a m first f) (nearer_to b w second g) = made a b m w first second (omega (arith, f, g))
          go (nearer_to a m first f) (joins second j v) = made a was.second_place m (was.second_ticks - 1) first second (omega (arith, f))
          go (joins first i v) (nearer_to b w second g) = made was.first_place b (was.first_ticks - 1) w first second (omega (arith, g))
          go (joins first i v) (joins second j wish) = absurd (true≢false (sym (begins_now s.plan s.rings (rings_given s row) i j v) ∙ none))

      pub away_tick : (left n : ℕ) → Beyond longest Lasts k h r c (view free s) d n → IsSide s.plan.side_count d → n + abroad longest Lasts k h r c (view free s) d ≤ left → Nearer left
      away_tick left n was is_side all =
          let less = beyond_tick n was in
          let some = less.some in
          record { some = omega (arith, some, all); stage = away_from d (n - 1) less.stage far is_side out_then (omega (arith, some, all)) }
