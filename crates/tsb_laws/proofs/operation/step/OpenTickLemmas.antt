-- What holds of the controller in a tick with no preempt in service, outside a crossing, where all phases of one side
-- go together: what its rings are told and do. For the laws that called phases are served, in free operation and in
-- patterns.
use Rattle.std.proofs.Common.{◌≡◌, ◌≢◌, ℕ, ◌≤◌, ◌==◌, Bool, true, false, not, ◌&&◌, Option, Some, None, refl, sym, ap, ◌∙◌, arith}
use Rattle.std.proofs.lemmas.Bool.{and_parts, eqb-true, eq-eqb, true≢false, false≢true, false_from_ne_true}
use Rattle.tsb_step.specs.tsb_types.declared.interval.Interval.TheVariants.{Green}
use Rattle.tsb_step.specs.tsb_types.declared.row.Row.{Row}
use Rattle.tsb_step.specs.tsb_types.Intervals.{is_green, in_service}
use Rattle.tsb_step.specs.tsb_types.Lists.{among}
use Rattle.tsb_step.specs.tsb_plan.Plan.{phases, is_enabled, is_concurrent, ring_of, side_of}
use Rattle.tsb_step.specs.tsb_plan.Running.{running, sequence_in_effect}
use Rattle.tsb_step.specs.tsb_rules.Consistent.{IsPhase, ListsRing}
use Rattle.tsb_step.specs.tsb_rules.SequenceRules.{lists_once}
use Rattle.tsb_step.proofs.tsb_rules.ConsistentLemmas.{together}
use Rattle.tsb_step.specs.tsb_calls.Callable.{has_conflict}
use Rattle.tsb_step.specs.tsb_ring.Rings.{Ring, number, in_ring, serving}
use Rattle.tsb_step.specs.tsb_ring.Wants.{is_on_side, is_called_elsewhere}
use Rattle.tsb_step.specs.tsb_ring.Next.{starting}
use Rattle.tsb_step.specs.tsb_ring.Moves.{is_ended, is_started}
use Rattle.tsb_step.specs.tsb_ring.Laws.{IsListed}
use Rattle.tsb_step.proofs.tsb_ring.MoveLemmas.{ends_ready}
use Rattle.tsb_step.proofs.tsb_ring.WaitLemmas.{is_serving}
use Rattle.tsb_step.specs.State.{State, interval}
use Rattle.tsb_step.specs.Tick.{service, calls_given, set, callable, conflict, over, reverted, ready, rings_given, moves, yellow_done, next}
use Rattle.tsb_step.specs.Good.{IsGood}
use Rattle.tsb_step.specs.TimeLaws.{IsSided}
use Rattle.tsb_step.proofs.ClipLemmas.{clipped_holds}
use Rattle.tsb_step.proofs.GivenLemmas.{listed_is_phase, enabled_is_listed, lists_now, lists_ring, symmetric, given}
use Rattle.tsb_step.proofs.IntervalLemmas.{ended_was_green}
use Rattle.tsb_laws.specs.CrossingGreens.{IsCalm}
use Rattle.tsb_laws.specs.ServedCalls.{IsFullyConcurrent}
use Rattle.tsb_laws.proofs.safety.AllRedRingLemmas.{started_by}
use Rattle.tsb_laws.specs.Stretches.{has_no_trails}
use Rattle.tsb_laws.proofs.safety.DueLemmas.{clipped_at}
use Rattle.tsb_laws.proofs.safety.UnheldLemmas.{told_over as unheld_over}
use Rattle.tsb_laws.proofs.safety.EnabledLemmas.{AreEnabled, callable_on, callable_no_green, free_of}
use Rattle.tsb_laws.proofs.safety.SideSoughtLemmas.{Found, some_found, found_some}
use Rattle.tsb_laws.proofs.safety.CoordinationLemmas.{no_target}
use Rattle.tsb_laws.proofs.operation.step.CalmLemmas.{not_started}
use Rattle.tsb_laws.proofs.operation.step.PhaseTimeLemmas.{IsTimed}
use Rattle.tsb_laws.proofs.operation.preempt.PressLemmas.{serving_is}
use Rattle.tsb_laws.proofs.operation.step.TurnRingLemmas.{IsFair}
use Rattle.tsb_laws.proofs.operation.calls.RingPlaceLemmas.{view, order_of}

pub record IsOpenTick (s : State) (row : Row) : Type 0 where
  pub untrailed : has_no_trails s.plan ≡ true
  pub good : IsGood s
  pub few : s.plan.phase_count ≤ 16
  pub calm : IsCalm s.plan (interval s) s.rings
  pub sided : IsSided s.plan (interval s) s.rings
  pub on : AreEnabled s.plan (interval s) s.rings
  pub timed : (p : ℕ) → IsTimed (s.phases p)
  pub full : IsFullyConcurrent s.plan
  pub quiet : service s row ≡ None
  pub outside : s.rings.crossing ≡ None

-- ## What is callable

pub callable_enabled : (s : State) (row : Row) (q : ℕ) → callable s row q ≡ true → is_enabled s.plan q ≡ true
callable_enabled s row q h = (and_parts (is_enabled s.plan q) _ (free_of s.plan (calls_given s row) (set s row) q h)).0

pub callable_told : (s : State) (row : Row) (q : ℕ) → s.plan.phase_count ≤ 16 → IsListed s.plan q → callable s row q ≡ true →
    (rings_given s row).callable q ≡ true
unfolding rings_given
callable_told s row q few there h = clipped_at (callable s row) s.plan q few there ∙ h

-- what the rings find callable is callable
pub told_back : (s : State) (row : Row) (p : ℕ) → (rings_given s row).callable p ≡ true → callable s row p ≡ true
unfolding rings_given
told_back s row p h = clipped_holds (callable s row) p h

-- ## Orders

module _ (s : State) (good : IsGood s) where
  pub listed : (p : ℕ) → is_enabled s.plan p ≡ true → IsListed s.plan p
  listed p h = enabled_is_listed s.plan good.plan p h

  pub some_phase : (p : ℕ) → is_enabled s.plan p ≡ true → p ≢ 0
  some_phase p h zero_is =
      let it : IsPhase s.plan p = listed_is_phase s.plan p (listed p h) in let low : 1 ≤ p = it.from_one in omega (arith, low, zero_is)

module _ (free : Bool) (s : State) (good : IsGood s) where
  -- the sequence in effect lists each enabled phase of the ring once
  pub lists : (r : Ring) → ListsRing s.plan (number r) (order_of (view free s) r)
  lists r = go free
    where
      go : (b : Bool) → ListsRing s.plan (number r) (order_of (view b s) r)
      go true = lists_ring s.plan 1 r (lists_now s.plan good.plan.rules None (λ n e. absurd cc))
      go false = lists_ring s.plan (sequence_in_effect s.plan (running s.plan s.pattern)) r (lists_now s.plan good.plan.rules s.pattern good.pattern)

  pub once : (r : Ring) → lists_once (order_of (view free s) r) ≡ true
  once r = let it : ListsRing s.plan (number r) (order_of (view free s) r) = lists r in it.once

  pub in_order : (r : Ring) (p : ℕ) → in_ring s.plan r p ≡ true → is_enabled s.plan p ≡ true → among p (order_of (view free s) r) ≡ true
  in_order r p own on =
      let it : ListsRing s.plan (number r) (order_of (view free s) r) = lists r in
      it.each p (listed_is_phase s.plan p (listed s good p on)) on (eqb-true (ring_of s.plan p) (number r) own)

-- ## The tick

module _ (s : State) (row : Row) (tick : IsOpenTick s row) where
  -- what the rings are given is fair
  pub fair : IsFair s.plan s.rings (rings_given s row)
  unfolding rings_given
  fair = record {
    free = no_target s row tick.quiet;
    full = tick.full;
    called_on = callable_on s row;
    serves_on = tick.on.serves;
    promised_on = tick.on.promised;
    sided = tick.sided;
    sound = tick.good.rings;
    told = given s row tick.good;
    outside = tick.outside;
  }

  -- two phases of one ring are not concurrent
  pub apart : (r : Ring) (p q : ℕ) → in_ring s.plan r p ≡ true → in_ring s.plan r q ≡ true → is_enabled s.plan p ≡ true → is_enabled s.plan q ≡ true →
      is_concurrent s.plan p q ≡ false
  apart r p q own_p own_q on_p on_q =
      false_from_ne_true _ (λ h. (together s.plan tick.good.plan.rules p q (listed_is_phase s.plan p (listed s tick.good p on_p)) (listed_is_phase s.plan q (listed s tick.good q on_q)) h).rings
      (eqb-true (ring_of s.plan p) (number r) own_p ∙ sym (eqb-true (ring_of s.plan q) (number r) own_q)))

  -- nor are two of different sides
  pub across_apart : (p q : ℕ) → is_enabled s.plan p ≡ true → is_enabled s.plan q ≡ true → side_of s.plan p ≢ side_of s.plan q → is_concurrent s.plan p q ≡ false
  across_apart p q on_p on_q other =
      false_from_ne_true _ (λ h. other (together s.plan tick.good.plan.rules p q (listed_is_phase s.plan p (listed s tick.good p on_p)) (listed_is_phase s.plan q (listed s tick.good q on_q)) h).sides)

  -- a green has a conflict with a callable phase that it does not go with
  pub conflicts : (p q : ℕ) → interval s p ≡ Green → callable s row q ≡ true → IsListed s.plan q → is_concurrent s.plan p q ≡ false →
      (rings_given s row).callable q ≡ true → conflict s row p ≡ true
  unfolding has_conflict
  conflicts p q green called there h told =
      found_some (λ x. callable s row x && (not (x == p) && not (is_concurrent s.plan p x))) (phases s.plan) q there (rw (called, other, h) refl)
    where
      other : (q == p) ≡ false
      other = false_from_ne_true _ (λ e. true≢false (sym (ap is_green green) ∙ ap (λ (x : ℕ). is_green (interval s x)) (sym (eqb-true q p e)) ∙ callable_no_green s row q told))

  pub told_ready : (p : ℕ) → IsListed s.plan p → (rings_given s row).ready p ≡ ready s row p
  unfolding rings_given
  told_ready p there = clipped_at (ready s row) s.plan p tick.few there

  pub told_over : (p : ℕ) → IsListed s.plan p → (rings_given s row).over p ≡ over s p
  told_over p there = unheld_over s row p tick.untrailed tick.few there

  pub told_reverted : (p : ℕ) → IsListed s.plan p → (rings_given s row).reverted p ≡ reverted s p
  unfolding rings_given
  told_reverted p there = clipped_at (reverted s) s.plan p tick.few there

  pub serves_it : (r : Ring) (p : ℕ) → in_ring s.plan r p ≡ true → in_service (interval s p) ≡ true → serving s.plan (rings_given s row) r ≡ Some p
  unfolding rings_given
  serves_it r p own serves = is_serving s.plan s.rings (rings_given s row) r p tick.good.rings own serves

  pub serves_none : (r : Ring) → ((p : ℕ) → in_ring s.plan r p ≡ true → in_service (interval s p) ≡ false) → serving s.plan (rings_given s row) r ≡ None
  unfolding rings_given
  serves_none r none = go (serving s.plan (rings_given s row) r) refl
    where
      go : (o : Option ℕ) → serving s.plan (rings_given s row) r ≡ o → serving s.plan (rings_given s row) r ≡ None
      go None e = e
      go (Some q) e = let both = serving_is s.plan (rings_given s row) r q e in absurd (true≢false (sym both.1 ∙ none q both.0))

  pub served_is : (r : Ring) (p : ℕ) → serving s.plan (rings_given s row) r ≡ Some p → (in_ring s.plan r p ≡ true) × (in_service (interval s p) ≡ true)
  unfolding rings_given
  served_is r p e = serving_is s.plan (rings_given s row) r p e

  pub given_green : (p : ℕ) → interval s p ≡ Green → is_green ((rings_given s row).interval p) ≡ true
  unfolding rings_given
  given_green p green = ap is_green green

  pub ended_ready : (p : ℕ) → is_ended (moves s row) p ≡ true → (rings_given s row).ready p ≡ true
  unfolding moves
  ended_ready p h = (ends_ready s.plan s.rings (rings_given s row) p h).1

  pub starts_nothing : (r : Ring) (p : ℕ) → in_ring s.plan r p ≡ true → starting s.plan s.rings (rings_given s row) r ≡ None → is_started (moves s row) p ≡ false
  unfolding moves rings_given
  starts_nothing r p own none =
      not_started s.plan s.rings (rings_given s row) (yellow_done s) (symmetric s.plan tick.good.plan.rules) tick.good.rings (given s row tick.good)
      (callable_no_green s row) tick.calm r p own none

  pub starts_it : (r : Ring) (p : ℕ) → starting s.plan s.rings (rings_given s row) r ≡ Some p → interval (next s row) p ≡ Green
  unfolding moves
  starts_it r p e = let on_it : is_started (moves s row) p ≡ true = started_by s.plan s.rings (rings_given s row) r p e in rw on_it refl

  pub ends_none : (p : ℕ) → is_green (interval s p) ≡ false → is_ended (moves s row) p ≡ false
  ends_none p dark = false_from_ne_true _ (λ h. true≢false (sym (ended_was_green s row p h) ∙ dark))

  -- ## What has a conflict

  -- a green has one with a called phase of its own ring
  pub pressed_beside : (r : Ring) (p q : ℕ) → in_ring s.plan r p ≡ true → in_ring s.plan r q ≡ true → is_enabled s.plan q ≡ true → callable s row q ≡ true →
      interval s p ≡ Green → conflict s row p ≡ true
  pressed_beside r p q own_p own_q on called green =
      conflicts p q green called (listed s tick.good q on) (apart r p q own_p own_q (tick.on.serves p (ap in_service green)) on) (callable_told s row q tick.few (listed s tick.good q on) called)

  -- and with one that is called elsewhere
  pub pressed_across : is_called_elsewhere s.plan s.rings (rings_given s row) ≡ true → (p : ℕ) → interval s p ≡ Green → conflict s row p ≡ true
  pressed_across away p green =
      conflicts p it.one green (told_back s row it.one both.0) it.listed
      (across_apart p it.one (tick.on.serves p serves) (callable_on s row it.one both.0) beside) both.0
    where
      it : Found (λ x. (rings_given s row).callable x && not (is_on_side s.plan s.rings.side x)) (phases s.plan)
      it = some_found (λ x. (rings_given s row).callable x && not (is_on_side s.plan s.rings.side x)) (phases s.plan) away

      both : ((rings_given s row).callable it.one ≡ true) × (not (is_on_side s.plan s.rings.side it.one) ≡ true)
      both = and_parts ((rings_given s row).callable it.one) (not (is_on_side s.plan s.rings.side it.one)) it.passes

      serves : in_service (interval s p) ≡ true
      serves = ap in_service green

      beside : side_of s.plan p ≢ side_of s.plan it.one
      beside sides =
          let here : is_on_side s.plan s.rings.side it.one ≡ true = eq-eqb (side_of s.plan it.one) s.rings.side (sym sides ∙ tick.sided.serves p serves) in
          false≢true (sym (ap not here) ∙ both.1)

  -- a phase of another side that is called is called elsewhere
  pub called_away : (q : ℕ) → is_enabled s.plan q ≡ true → callable s row q ≡ true → side_of s.plan q ≢ s.rings.side →
      is_called_elsewhere s.plan s.rings (rings_given s row) ≡ true
  called_away q on called other =
      found_some (λ x. (rings_given s row).callable x && not (is_on_side s.plan s.rings.side x)) (phases s.plan) q (listed s tick.good q on)
      (rw (callable_told s row q tick.few (listed s tick.good q on) called, not_here) refl)
    where
      not_here : is_on_side s.plan s.rings.side q ≡ false
      not_here = false_from_ne_true _ (λ e. other (eqb-true (side_of s.plan q) s.rings.side e))
