-- What one tick makes of a green that is ready and has a conflict, with no preempt in service, where all phases of one
-- side go together: it ends, or waits for the other ring at the barrier. Proves the clause `ends` of
-- `coordination_goes_on`.
use Rattle.std.proofs.Common.{◌≡◌, ◌≢◌, ℕ, ◌≤◌, ◌==◌, Bool, true, false, not, ◌&&◌, List, ◌∷◌, Option, Some, None, refl, sym, ap, arith, ◌∙◌, inl, inr, ◌⊎◌}
use Rattle.std.proofs.lemmas.Bool.{cases_Bool, not-true, and_parts, or_right, eqb-true, true≢false, false≢true, false_from_ne_true}
use Rattle.tsb_step.specs.tsb_types.declared.interval.Interval.{Interval}
use Rattle.tsb_step.specs.tsb_types.declared.interval.Interval.TheVariants.{Red, Green, Yellow, RedClear}
use Rattle.tsb_step.specs.tsb_types.declared.row.Row.{Row}
use Rattle.tsb_step.specs.tsb_types.Intervals.{is_green, in_service}
use Rattle.tsb_step.specs.tsb_types.Lists.{first, among, later, not_later}
use Rattle.tsb_step.specs.tsb_plan.Plan.{Plan, phases, is_enabled, is_concurrent, side_of, ring_of, sequence}
use Rattle.tsb_step.specs.tsb_plan.Running.{running, sequence_in_effect}
use Rattle.tsb_step.specs.tsb_rules.Consistent.{IsPlaced, ListsRing}
use Rattle.tsb_step.proofs.tsb_rules.ConsistentLemmas.{placed}
use Rattle.tsb_step.specs.tsb_calls.Callable.{is_callable, has_conflict}
use Rattle.tsb_step.specs.tsb_ring.declared.want.Want.TheVariants.{Go, Cross}
use Rattle.tsb_step.specs.tsb_ring.Rings as rings
use Rattle.tsb_step.specs.tsb_ring.Rings.{Ring, Ring1, Ring2, other, number, in_ring, serving}
use Rattle.tsb_step.specs.tsb_ring.Wants.{is_on_side, is_candidate, is_called_elsewhere, is_idle_or_green, picked_before, want_of}
use Rattle.tsb_step.specs.tsb_ring.Crossings.{wants_cross, ring_joins, begins}
use Rattle.tsb_step.specs.tsb_ring.Moves.{is_ended, is_started}
use Rattle.tsb_step.specs.tsb_ring.Laws.{IsListed}
use Rattle.tsb_step.proofs.tsb_ring.WaitLemmas.{is_serving, first-passes}
use Rattle.tsb_step.specs.declared.inputs.Input.{Input}
use Rattle.tsb_step.specs.declared.inputs.Input.TheVariants.{Tick}
use Rattle.tsb_step.specs.State.{State, interval}
use Rattle.tsb_step.specs.Tick.{service, calls_given, set, callable, conflict, ready, rings_given, moves, next}
use Rattle.tsb_step.specs.Runs.{replay, AreTaken}
use Rattle.tsb_step.specs.Laws.{IsConsistent}
use Rattle.tsb_step.specs.Good.{IsGood}
use Rattle.tsb_step.specs.TimeLaws.{IsSided}
use Rattle.tsb_step.proofs.GivenLemmas.{given, enabled_is_listed, listed_is_phase, lists_now, lists_ring}
use Rattle.tsb_step.proofs.GoodLemmas.{good_run}
use Rattle.tsb_step.proofs.SideRunLemmas.{sided_run}
use Rattle.tsb_step.proofs.TellLemmas.{starts_no_green}
use Rattle.tsb_laws.specs.CrossingGreens.{IsCalm}
use Rattle.tsb_laws.specs.ServedCalls.{IsFullyConcurrent}
use Rattle.tsb_laws.specs.CoordinatedGreens.{KeepsAtBarrier, a_commitment, a_green, a_call}
use Rattle.tsb_laws.proofs.safety.CrossingRingLemmas.{begins_ending}
use Rattle.tsb_laws.proofs.safety.DueLemmas.{count_run, clipped_at}
use Rattle.tsb_laws.proofs.safety.EnabledLemmas.{AreEnabled, callable_on, enabled_run}
use Rattle.tsb_laws.proofs.safety.SideSoughtLemmas.{Found, some_found, found_some, none_first}
use Rattle.tsb_laws.proofs.safety.StretchLemmas.{at_next}
use Rattle.tsb_laws.proofs.safety.AllRedRingLemmas.{later_or_not}
use Rattle.tsb_laws.proofs.safety.AllRedLemmas.{ring_is}
use Rattle.tsb_laws.proofs.safety.CoordinationLemmas.{no_target}
use Rattle.tsb_laws.proofs.operation.step.CalmLemmas.{calm_run}
use Rattle.tsb_laws.proofs.operation.preempt.PressLemmas.{serving_is}
use Rattle.tsb_laws.proofs.operation.step.TurnRingLemmas.{IsFair, Goes, Wishes, goes, crosses, candidate, want_is, candidate_is, wishes, ends_by_want}

-- ## By the rings alone

module _ (plan : Plan) (s : rings.State) (given : rings.Given) (fair : IsFair plan s given) where
  -- why ring r does not join in a crossing, where another side is called
  data Bars (r : Ring) : Type 0 where
    committed_to : (c : ℕ) → s.commitment r ≡ Some c → Bars r
    green_of : (q : ℕ) → serving plan given r ≡ Some q → given.interval q ≡ Green → given.ready q ≡ false → Bars r
    going_to : Goes plan s given fair r → Bars r

  joins_or_bars : (r : Ring) → is_called_elsewhere plan s given ≡ true → (ring_joins plan s given r ≡ true) ⊎ Bars r
  joins_or_bars r away = go (s.commitment r) (serving plan given r) refl refl
    where
      idle : s.commitment r ≡ None → serving plan given r ≡ None → Wishes plan s given fair r → (ring_joins plan s given r ≡ true) ⊎ Bars r
      idle none e (goes g) = inr (going_to g)
      idle none e (crosses w) = inl (rw (none, e, w) refl)

      fit : (q : ℕ) → s.commitment r ≡ None → serving plan given r ≡ Some q → given.interval q ≡ Green → given.ready q ≡ true → Wishes plan s given fair r →
          (ring_joins plan s given r ≡ true) ⊎ Bars r
      fit q none e f l (goes g) = inr (going_to g)
      fit q none e f l (crosses w) = inl (rw (none, e, f, l, w) refl)

      green : (q : ℕ) → s.commitment r ≡ None → serving plan given r ≡ Some q → given.interval q ≡ Green → (b : Bool) → given.ready q ≡ b →
          (ring_joins plan s given r ≡ true) ⊎ Bars r
      green q none e f true l = fit q none e f l (wishes plan s given fair r away none (rw (e, f) refl))
      green q none e f false l = inr (green_of q e f l)

      by : (q : ℕ) → s.commitment r ≡ None → serving plan given r ≡ Some q → (i : Interval) → given.interval q ≡ i → in_service i ≡ true →
          (ring_joins plan s given r ≡ true) ⊎ Bars r
      by q none e Red f serves = absurd (false≢true serves)
      by q none e Green f serves = green q none e f (given.ready q) refl
      by q none e Yellow f serves = inl (rw (none, e, f) refl)
      by q none e RedClear f serves = inl (rw (none, e, f) refl)

      go : (c o : Option ℕ) → s.commitment r ≡ c → serving plan given r ≡ o → (ring_joins plan s given r ≡ true) ⊎ Bars r
      go (Some c) o k e = inr (committed_to c k)
      go None None k e = idle k e (wishes plan s given fair r away k (rw e refl))
      go None (Some q) k e = by q k e (given.interval q) refl (serving_is plan given r q e).1

  pub begins_when : (r : Ring) → ring_joins plan s given r ≡ true → ring_joins plan s given (other r) ≡ true → want_of plan s given r ≡ Some Cross →
      begins plan s given ≡ true
  unfolding begins
  begins_when Ring1 one two w = rw (one, two, w) refl
  begins_when Ring2 one two w = rw (one, two, w) (or_right (wants_cross (want_of plan s given Ring1)) true refl)

  -- a crossing that a ready green wants begins, or the other ring bars it
  barred : (r : Ring) (p : ℕ) → serving plan given r ≡ Some p → given.interval p ≡ Green → given.ready p ≡ true → want_of plan s given r ≡ Some Cross →
      is_called_elsewhere plan s given ≡ true → begins plan s given ≡ false → Bars (other r)
  barred r p e green fit w away none =
      elim (joins_or_bars (other r) away) [
        | inr k ↦ k
        | inl two ↦ absurd (true≢false (sym (begins_when r one two w) ∙ none))
      ]
    where
      one : ring_joins plan s given r ≡ true
      one = rw (e, green, fit, w) refl

  -- where no other side is called, the ring goes to a phase of its own, if one is called
  goes_home : (r : Ring) (q : ℕ) → in_ring plan r q ≡ true → side_of plan q ≡ s.side → given.callable q ≡ true → among q (given.sequence r) ≡ true →
      is_called_elsewhere plan s given ≡ false → s.commitment r ≡ None → is_idle_or_green given (serving plan given r) ≡ true →
      (c : ℕ) × (want_of plan s given r ≡ Some (Go c))
  goes_home r q own here called there home none idle =
      go (first test (later (s.last r) (given.sequence r))) (first test (not_later (s.last r) (given.sequence r))) refl refl
    where
      test : ℕ → Bool
      test = is_candidate plan s given r (picked_before plan s given r)

      passes : test q ≡ true
      passes = candidate plan s given fair r q own here called

      ahead : (c : ℕ) → first (is_candidate plan s given r (picked_before plan s given r)) (later (s.last r) (given.sequence r)) ≡ Some c →
          want_of plan s given r ≡ Some (Go c)
      ahead c e = want_is plan s given fair r none idle ∙ rw e refl

      again : (c : ℕ) → first (is_candidate plan s given r (picked_before plan s given r)) (later (s.last r) (given.sequence r)) ≡ None →
          first (is_candidate plan s given r (picked_before plan s given r)) (not_later (s.last r) (given.sequence r)) ≡ Some c →
          want_of plan s given r ≡ Some (Go c)
      again c e f = want_is plan s given fair r none idle ∙ rw (e, home, f) refl

      go : (o u : Option ℕ) → first test (later (s.last r) (given.sequence r)) ≡ o → first test (not_later (s.last r) (given.sequence r)) ≡ u →
          (c : ℕ) × (want_of plan s given r ≡ Some (Go c))
      go (Some c) u e f = (c, ahead c e)
      go None (Some c) e f = (c, again c e f)
      go None None e f =
          absurd (elim (later_or_not (s.last r) q (given.sequence r) there) [
            | inl k ↦ none_first test (later (s.last r) (given.sequence r)) q k passes e
            | inr k ↦ none_first test (not_later (s.last r) (given.sequence r)) q k passes f
          ])

same_or_other : (r x : Ring) → (x ≡ r) ⊎ (x ≡ other r)
same_or_other Ring1 Ring1 = inl refl
same_or_other Ring1 Ring2 = inr refl
same_or_other Ring2 Ring1 = inr refl
same_or_other Ring2 Ring2 = inl refl

-- ## Of the controller

module _ (s : State) (row : Row) (r : Ring) (p : ℕ) (good : IsGood s) (few : s.plan.phase_count ≤ 16) (calm : IsCalm s.plan (interval s) s.rings) (sided : IsSided s.plan (interval s) s.rings) (on : AreEnabled s.plan (interval s) s.rings) (full : IsFullyConcurrent s.plan) (quiet : service s row ≡ None) (own : in_ring s.plan r p ≡ true) (green : interval s p ≡ Green) (fit : ready s row p ≡ true) (pressed : conflict s row p ≡ true) where
  serves : in_service (interval s p) ≡ true
  serves = ap in_service green

  outside : s.rings.crossing ≡ None
  outside = go s.rings.crossing refl
    where
      go : (o : Option ℕ) → s.rings.crossing ≡ o → s.rings.crossing ≡ None
      go None e = e
      go (Some d) e = absurd (true≢false (sym (ap is_green green) ∙ calm.crosses d e p))

  uncommitted : s.rings.commitment r ≡ None
  uncommitted = go (s.rings.commitment r) refl
    where
      go : (o : Option ℕ) → s.rings.commitment r ≡ o → s.rings.commitment r ≡ None
      go None e = e
      go (Some c) e = absurd (true≢false (sym (ap is_green green) ∙ calm.bound r c p e own))

  fair : IsFair s.plan s.rings (rings_given s row)
  unfolding rings_given
  fair = record {
    free = no_target s row quiet;
    full = full;
    called_on = callable_on s row;
    serves_on = on.serves;
    promised_on = on.promised;
    sided = sided;
    sound = good.rings;
    told = given s row good;
    outside = outside;
  }

  at_it : serving s.plan (rings_given s row) r ≡ Some p
  unfolding rings_given
  at_it = is_serving s.plan s.rings (rings_given s row) r p good.rings own serves

  given_green : (rings_given s row).interval p ≡ Green
  unfolding rings_given
  given_green = green

  told_ready : (q : ℕ) → IsListed s.plan q → (rings_given s row).ready q ≡ ready s row q
  unfolding rings_given
  told_ready q there = clipped_at (ready s row) s.plan q few there

  told_callable : (q : ℕ) → IsListed s.plan q → (rings_given s row).callable q ≡ callable s row q
  unfolding rings_given
  told_callable q there = clipped_at (callable s row) s.plan q few there

  fit_now : (rings_given s row).ready p ≡ true
  fit_now = told_ready p (good.rings.listed p serves) ∙ fit

  idle : is_idle_or_green (rings_given s row) (serving s.plan (rings_given s row) r) ≡ true
  idle = rw at_it (ap is_green given_green)

  ends_going : (c : ℕ) → want_of s.plan s.rings (rings_given s row) r ≡ Some (Go c) → is_ended (moves s row) p ≡ true
  unfolding moves
  ends_going c w = ends_by_want s.plan s.rings (rings_given s row) fair r p c at_it own (ap is_green given_green) fit_now w

  ends_crossing : begins s.plan s.rings (rings_given s row) ≡ true → is_ended (moves s row) p ≡ true
  unfolding moves rings_given
  ends_crossing b = begins_ending s.plan s.rings (rings_given s row) r p good.rings own serves (ap is_green green) b

  served_is : (x : Ring) (q : ℕ) → serving s.plan (rings_given s row) x ≡ Some q → (in_ring s.plan x q ≡ true) × (in_service (interval s q) ≡ true)
  unfolding rings_given
  served_is x q e = serving_is s.plan (rings_given s row) x q e

  is_interval : (q : ℕ) → (rings_given s row).interval q ≡ Green → interval s q ≡ Green
  unfolding rings_given
  is_interval q e = e

  keeps : Bars s.plan s.rings (rings_given s row) fair (other r) → KeepsAtBarrier s row (other r)
  keeps (committed_to c e) = a_commitment c e
  keeps (green_of q e f l) =
      let both = served_is (other r) q e in
      a_green q both.0 (is_interval q f) (sym (told_ready q (good.rings.listed q both.1)) ∙ l)
  keeps (going_to g) =
      let it = candidate_is s.plan s.rings (rings_given s row) fair (other r) (picked_before s.plan s.rings (rings_given s row) (other r)) g.one
      (first-passes (is_candidate s.plan s.rings (rings_given s row) (other r) (picked_before s.plan s.rings (rings_given s row) (other r)))
      (later (s.rings.last (other r)) ((rings_given s row).sequence (other r))) g.one g.found) in
      a_call g.one it.ringed it.here
      (sym (told_callable g.one (enabled_is_listed s.plan good.plan g.one (callable_on s row g.one it.called))) ∙ it.called)

  abbrev MakesWay : Type 0
  MakesWay = (is_ended (moves s row) p ≡ true) ⊎ KeepsAtBarrier s row (other r)

  crossing_or_kept : is_called_elsewhere s.plan s.rings (rings_given s row) ≡ true → want_of s.plan s.rings (rings_given s row) r ≡ Some Cross → MakesWay
  crossing_or_kept away w =
      elim (cases_Bool (begins s.plan s.rings (rings_given s row))) [
        | inl b ↦ inl (ends_crossing b)
        | inr b ↦ inr (keeps (barred s.plan s.rings (rings_given s row) fair r p at_it given_green fit_now w away b))
      ]

  elsewhere : is_called_elsewhere s.plan s.rings (rings_given s row) ≡ true → MakesWay
  elsewhere away = go (wishes s.plan s.rings (rings_given s row) fair r away uncommitted idle)
    where
      go : Wishes s.plan s.rings (rings_given s row) fair r → MakesWay
      go (goes g) = inl (ends_going g.one g.wanted)
      go (crosses w) = crossing_or_kept away w

  -- the phase that waits for it
  record Waiting : Type 0 where
    one : ℕ
    called : callable s row one ≡ true
    listed : IsListed s.plan one
    apart : is_concurrent s.plan p one ≡ false

  waiting : Waiting
  unfolding has_conflict
  waiting =
      let it : Found (λ q. is_callable s.plan (calls_given s row) (set s row) q && (not (q == p) && not (is_concurrent s.plan p q))) (phases s.plan) =
      some_found (λ q. is_callable s.plan (calls_given s row) (set s row) q && (not (q == p) && not (is_concurrent s.plan p q))) (phases s.plan) pressed in
      let outer = and_parts (is_callable s.plan (calls_given s row) (set s row) it.one) (not (it.one == p) && not (is_concurrent s.plan p it.one)) it.passes in
      let inner = and_parts (not (it.one == p)) (not (is_concurrent s.plan p it.one)) outer.1 in
      record { one = it.one; called = outer.0; listed = it.listed; apart = not-true (is_concurrent s.plan p it.one) inner.1 }

  its_call : (rings_given s row).callable waiting.one ≡ true
  its_call = told_callable waiting.one waiting.listed ∙ waiting.called

  its_on : is_enabled s.plan waiting.one ≡ true
  its_on = callable_on s row waiting.one its_call

  its_ring : (x : Ring) × (in_ring s.plan x waiting.one ≡ true)
  its_ring =
      let it : IsPlaced s.plan waiting.one = placed s.plan good.plan.rules waiting.one (listed_is_phase s.plan waiting.one waiting.listed) its_on in
      ring_is s.plan waiting.one it.ring_from it.ring_to

  sequenced : in_ring s.plan r waiting.one ≡ true → among waiting.one ((rings_given s row).sequence r) ≡ true
  unfolding rings_given
  sequenced h =
      let n : ℕ = sequence_in_effect s.plan (running s.plan s.pattern) in
      let lists : ListsRing s.plan (number r) (sequence s.plan n (number r)) = lists_ring s.plan n r (lists_now s.plan good.plan.rules s.pattern good.pattern) in
      lists.each waiting.one (listed_is_phase s.plan waiting.one waiting.listed) its_on (eqb-true (ring_of s.plan waiting.one) (number r) h)

  at_home : is_called_elsewhere s.plan s.rings (rings_given s row) ≡ false → MakesWay
  at_home home = go (cases_Bool (is_on_side s.plan s.rings.side waiting.one))
    where
      here_now : is_on_side s.plan s.rings.side waiting.one ≡ true → side_of s.plan waiting.one ≡ s.rings.side
      here_now h = eqb-true (side_of s.plan waiting.one) s.rings.side h

      go_home : in_ring s.plan r waiting.one ≡ true → side_of s.plan waiting.one ≡ s.rings.side → MakesWay
      go_home h here =
          let it = goes_home s.plan s.rings (rings_given s row) fair r waiting.one h here its_call (sequenced h) home uncommitted idle in
          inl (ends_going it.0 it.1)

      across : in_ring s.plan (other r) waiting.one ≡ true → side_of s.plan waiting.one ≡ s.rings.side → ⊥
      across h here =
          true≢false (sym (full r p waiting.one own h (on.serves p serves) its_on (sided.serves p serves ∙ sym here)) ∙ waiting.apart)

      by : (x : Ring) → in_ring s.plan x waiting.one ≡ true → (x ≡ r) ⊎ (x ≡ other r) → side_of s.plan waiting.one ≡ s.rings.side → MakesWay
      by x h (inl same) here = go_home (ap (λ (y : Ring). in_ring s.plan y waiting.one) (sym same) ∙ h) here
      by x h (inr across_is) here = absurd (across (ap (λ (y : Ring). in_ring s.plan y waiting.one) (sym across_is) ∙ h) here)

      go : (is_on_side s.plan s.rings.side waiting.one ≡ true) ⊎ (is_on_side s.plan s.rings.side waiting.one ≡ false) → MakesWay
      go (inl h) = by its_ring.0 its_ring.1 (same_or_other r its_ring.0) (here_now h)
      go (inr h) =
          absurd (true≢false (sym (found_some (λ q. (rings_given s row).callable q && not (is_on_side s.plan s.rings.side q)) (phases s.plan) waiting.one waiting.listed
          (rw (its_call, h) refl)) ∙ home))

  makes_way : MakesWay
  makes_way =
      elim (cases_Bool (is_called_elsewhere s.plan s.rings (rings_given s row))) [
        | inl away ↦ elsewhere away
        | inr home ↦ at_home home
      ]

  no_start : is_started (moves s row) p ≡ false
  no_start = false_from_ne_true _ (λ h. true≢false (sym (ap is_green green) ∙ starts_no_green s row p good h))

  pub leaves_or_kept : (interval (next s row) p ≢ Green) ⊎ KeepsAtBarrier s row (other r)
  leaves_or_kept = elim makes_way [ inl h ↦ inl (λ e. true≢false (sym (ap is_green e) ∙ ap is_green (yellow h))) | inr k ↦ inr k ]
    where
      yellow : is_ended (moves s row) p ≡ true → interval (next s row) p ≡ Yellow
      yellow h = rw (no_start, green, h) refl

pub makes_way_or_kept : (plan : Plan) (is : List Input) (row : Row) (r : Ring) (p : ℕ) → IsConsistent plan → plan.phase_count ≤ 16 → AreTaken plan is →
    (replay plan is).trip ≡ None → service (replay plan is) row ≡ None → IsFullyConcurrent (replay plan is).plan →
    in_ring (replay plan is).plan r p ≡ true → interval (replay plan is) p ≡ Green → ready (replay plan is) row p ≡ true →
    conflict (replay plan is) row p ≡ true →
    (interval (replay plan (Tick row ∷ is)) p ≢ Green) ⊎ KeepsAtBarrier (replay plan is) row (other r)
makes_way_or_kept plan is row r p ok few taken dark quiet full own green fit pressed =
    elim (leaves_or_kept (replay plan is) row r p (good_run plan is ok taken) few_now (calm_run plan is ok taken) (sided_run plan is ok taken)
    (enabled_run plan is ok taken) full quiet own green fit pressed) [
      | inl h ↦ inl (λ e. h (sym (at_next (replay plan is) row p dark) ∙ e))
      | inr k ↦ inr k
    ]
  where
    few_now : (replay plan is).plan.phase_count ≤ 16
    few_now = let same = count_run plan is in omega (arith, same, few)
