-- What a ring picks and what a crossing commits to: phases that are called, or that a preempt wants; all are enabled.
use Rattle.std.proofs.Common.{◌≡◌, ℕ, Bool, true, false, not, ◌&&◌, Option, Some, None, is_none, refl, sym, inl, inr, ◌∙◌}
use Rattle.std.proofs.lemmas.Bool.{and_parts}
use Rattle.std.proofs.lemmas.Option.{cond_some}
use Rattle.tsb_step.specs.tsb_plan.Plan.{Plan, phases, is_enabled, is_concurrent, has_dual_entry}
use Rattle.tsb_step.specs.tsb_ring.declared.want.Want.TheVariants.{Go}
use Rattle.tsb_step.specs.tsb_ring.Rings.{Ring, Ring1, Ring2, State, Given, in_ring, serving}
use Rattle.tsb_step.specs.tsb_ring.Wants.{concurrent_with, fits, is_on_side, want_by_calls, is_targeted, serves_target, want_by_target, want_found, is_idle_or_green, want, picked_before, want_of, pick}
use Rattle.tsb_step.specs.tsb_ring.Crossings.{target_side, may_enter, dual, is_called_in, called_in_ring_1, called_in_ring_2, entry_by_calls, entry_for, entry}
use Rattle.tsb_step.proofs.tsb_ring.MoveLemmas.{and_three}
use Rattle.tsb_step.proofs.tsb_ring.WaitLemmas.{first-passes, called_candidate, targeted_by, targeted_candidate}
use Rattle.tsb_step.proofs.tsb_ring.WantLemmas.{and_four, pick_want}
use Rattle.tsb_step.proofs.SideLemmas.{else_cases}
use Rattle.tsb_step.proofs.tsb_rules.ConsistentLemmas.{is-off}

-- ## What a ring picks

by_calls : (plan : Plan) (s : State) (given : Given) (r : Ring) (picked : Option ℕ) (p : ℕ) → want_by_calls plan s given r picked ≡ Go p →
    given.callable p ≡ true
by_calls plan s given r picked p h =
    (and_four (in_ring plan r p) (is_on_side plan s.side p) (given.callable p) (fits plan s given r picked p) (called_candidate plan s given r picked p h)).2

by_target : (plan : Plan) (s : State) (given : Given) (r : Ring) (picked : Option ℕ) (target : ℕ → Bool) (p : ℕ) →
    want_by_target plan s given r picked target ≡ Go p → (is_targeted plan target p ≡ true) × (serves_target plan target (serving plan given r) ≡ false)
by_target plan s given r picked target p h = (
  (and_four (in_ring plan r p) (is_on_side plan s.side p) (is_targeted plan target p) (fits plan s given r picked p)
      (targeted_candidate plan s given r picked target p h)).2,
  (targeted_by plan s given r picked target p h).0,
)

-- a phase is called, or the preempt in service wants it and not the one that its ring serves
pub data Chosen (plan : Plan) (given : Given) (r : Ring) (p : ℕ) : Type 0 where
  is_called : given.callable p ≡ true → Chosen plan given r p
  is_wanted : (target : ℕ → Bool) → given.target ≡ Some target → is_targeted plan target p ≡ true → serves_target plan target (serving plan given r) ≡ false → Chosen plan given r p

found_chosen : (plan : Plan) (s : State) (given : Given) (r : Ring) (picked : Option ℕ) (target : Option (ℕ → Bool)) (p : ℕ) → given.target ≡ target →
    want_found plan s given r picked target ≡ Go p → Chosen plan given r p
found_chosen plan s given r picked None p e h = is_called (by_calls plan s given r picked p h)
found_chosen plan s given r picked (Some target) p e h =
    let both = by_target plan s given r picked target p h in is_wanted target e both.0 both.1

pub want_chosen : (plan : Plan) (s : State) (given : Given) (r : Ring) (p : ℕ) → want_of plan s given r ≡ Some (Go p) → Chosen plan given r p
unfolding want_of want
want_chosen plan s given r p h =
    found_chosen plan s given r (picked_before plan s given r) given.target p refl
    (cond_some (is_none s.crossing && is_none (s.commitment r) && is_idle_or_green given (serving plan given r))
    (want_found plan s given r (picked_before plan s given r) given.target) (Go p) h).1

pub pick_chosen : (plan : Plan) (s : State) (given : Given) (r : Ring) (p : ℕ) → pick plan s given r ≡ Some p → Chosen plan given r p
pick_chosen plan s given r p h = want_chosen plan s given r p (pick_want plan s given r p h)

-- ## What a crossing commits to

module _ (plan : Plan) (given : Given) (callable_on : (p : ℕ) → given.callable p ≡ true → is_enabled plan p ≡ true) where
  chosen_enabled : (r : Ring) (p : ℕ) → Chosen plan given r p → is_enabled plan p ≡ true
  chosen_enabled r p (is_called h) = callable_on p h
  chosen_enabled r p (is_wanted target e h k) = (and_parts (is_enabled plan p) (target p) h).0

  pub pick_enabled : (s : State) (r : Ring) (p : ℕ) → pick plan s given r ≡ Some p → is_enabled plan p ≡ true
  pick_enabled s r p h = chosen_enabled r p (pick_chosen plan s given r p h)

  dual_enabled : (d : ℕ) (r : Ring) (o : Option ℕ) (p : ℕ) → dual plan given d r o ≡ Some p → is_enabled plan p ≡ true
  dual_enabled d r None p h = absurd (cc)
  dual_enabled d r (Some q) p h =
      let all : may_enter plan given d r q p ≡ true = first-passes (may_enter plan given d r q) (given.sequence r) p h in
      let outer = and_parts (in_ring plan r p && is_on_side plan d p && is_enabled plan p && has_dual_entry plan p && not (given.omitted p)) (is_concurrent plan p q) all in
      let inner = and_parts (in_ring plan r p && is_on_side plan d p && is_enabled plan p && has_dual_entry plan p) (not (given.omitted p)) outer.0 in
      (and_four (in_ring plan r p) (is_on_side plan d p) (is_enabled plan p) (has_dual_entry plan p) inner.0).2

  first_enabled : (d p : ℕ) → called_in_ring_1 plan given d ≡ Some p → is_enabled plan p ≡ true
  first_enabled d p h =
      callable_on p
      ((and_three (in_ring plan Ring1 p) (is_on_side plan d p) (given.callable p) (first-passes (is_called_in plan given d Ring1) (given.sequence Ring1) p h)).2)

  second_enabled : (d p : ℕ) → called_in_ring_2 plan given d ≡ Some p → is_enabled plan p ≡ true
  second_enabled d p h =
      let both = and_parts (is_called_in plan given d Ring2 p) (concurrent_with plan p (called_in_ring_1 plan given d))
      (first-passes (λ p. is_called_in plan given d Ring2 p && concurrent_with plan p (called_in_ring_1 plan given d)) (given.sequence Ring2) p h) in
      callable_on p ((and_three (in_ring plan Ring2 p) (is_on_side plan d p) (given.callable p) both.0).2)

  enters_enabled : (d : ℕ) (r : Ring) (p : ℕ) → entry_by_calls plan given d r ≡ Some p → is_enabled plan p ≡ true
  enters_enabled d Ring1 p h =
      elim (else_cases (called_in_ring_1 plan given d) (dual plan given d Ring1 (called_in_ring_2 plan given d)) p h) [
        | inl k ↦ first_enabled d p k
        | inr k ↦ dual_enabled d Ring1 (called_in_ring_2 plan given d) p k
      ]
  enters_enabled d Ring2 p h =
      elim (else_cases (called_in_ring_2 plan given d) (dual plan given d Ring2 (called_in_ring_1 plan given d)) p h) [
        | inl k ↦ second_enabled d p k
        | inr k ↦ dual_enabled d Ring2 (called_in_ring_1 plan given d) p k
      ]

  entry_for_enabled : (s : State) (r : Ring) (target : Option (ℕ → Bool)) (p : ℕ) → entry_for plan s given r target ≡ Some p → is_enabled plan p ≡ true
  entry_for_enabled s r None p h = enters_enabled (target_side plan s given) r p h
  entry_for_enabled s r (Some target) p h =
      let both = and_parts (in_ring plan r p) (is_targeted plan target p) (first-passes (λ x. in_ring plan r x && is_targeted plan target x) (phases plan) p h) in
      (and_parts (is_enabled plan p) (target p) both.1).0

  pub entry_enabled : (s : State) (r : Ring) (p : ℕ) → entry plan s given r ≡ Some p → is_enabled plan p ≡ true
  unfolding entry
  entry_enabled s r p h = entry_for_enabled s r given.target p h

-- ## What is omitted

module _ (plan : Plan) (given : Given) (called_not : (p : ℕ) → given.callable p ≡ true → given.omitted p ≡ false) (free : given.target ≡ None) where
  pub pick_not_omitted : (s : State) (r : Ring) (p : ℕ) → pick plan s given r ≡ Some p → given.omitted p ≡ false
  pick_not_omitted s r p h = go (pick_chosen plan s given r p h)
    where
      go : Chosen plan given r p → given.omitted p ≡ false
      go (is_called k) = called_not p k
      go (is_wanted target e k l) = let bad : None ≡ Some target = sym free ∙ e in absurd cc

  dual_not_omitted : (d : ℕ) (r : Ring) (o : Option ℕ) (p : ℕ) → dual plan given d r o ≡ Some p → given.omitted p ≡ false
  dual_not_omitted d r None p h = absurd (cc)
  dual_not_omitted d r (Some q) p h =
      let all : may_enter plan given d r q p ≡ true = first-passes (may_enter plan given d r q) (given.sequence r) p h in
      let outer = and_parts (in_ring plan r p && is_on_side plan d p && is_enabled plan p && has_dual_entry plan p && not (given.omitted p)) (is_concurrent plan p q) all in
      let inner = and_parts (in_ring plan r p && is_on_side plan d p && is_enabled plan p && has_dual_entry plan p) (not (given.omitted p)) outer.0 in
      is-off (given.omitted p) inner.1

  first_not_omitted : (d p : ℕ) → called_in_ring_1 plan given d ≡ Some p → given.omitted p ≡ false
  first_not_omitted d p h =
      called_not p
      ((and_three (in_ring plan Ring1 p) (is_on_side plan d p) (given.callable p) (first-passes (is_called_in plan given d Ring1) (given.sequence Ring1) p h)).2)

  second_not_omitted : (d p : ℕ) → called_in_ring_2 plan given d ≡ Some p → given.omitted p ≡ false
  second_not_omitted d p h =
      let both = and_parts (is_called_in plan given d Ring2 p) (concurrent_with plan p (called_in_ring_1 plan given d))
      (first-passes (λ p. is_called_in plan given d Ring2 p && concurrent_with plan p (called_in_ring_1 plan given d)) (given.sequence Ring2) p h) in
      called_not p ((and_three (in_ring plan Ring2 p) (is_on_side plan d p) (given.callable p) both.0).2)

  enters_not_omitted : (d : ℕ) (r : Ring) (p : ℕ) → entry_by_calls plan given d r ≡ Some p → given.omitted p ≡ false
  enters_not_omitted d Ring1 p h =
      elim (else_cases (called_in_ring_1 plan given d) (dual plan given d Ring1 (called_in_ring_2 plan given d)) p h) [
        | inl k ↦ first_not_omitted d p k
        | inr k ↦ dual_not_omitted d Ring1 (called_in_ring_2 plan given d) p k
      ]
  enters_not_omitted d Ring2 p h =
      elim (else_cases (called_in_ring_2 plan given d) (dual plan given d Ring2 (called_in_ring_1 plan given d)) p h) [
        | inl k ↦ second_not_omitted d p k
        | inr k ↦ dual_not_omitted d Ring2 (called_in_ring_1 plan given d) p k
      ]

  entry_for_not_omitted : (s : State) (r : Ring) (target : Option (ℕ → Bool)) (p : ℕ) → target ≡ None → entry_for plan s given r target ≡ Some p →
      given.omitted p ≡ false
  entry_for_not_omitted s r None p e h = enters_not_omitted (target_side plan s given) r p h
  entry_for_not_omitted s r (Some target) p e h = absurd (cc)

  pub entry_not_omitted : (s : State) (r : Ring) (p : ℕ) → entry plan s given r ≡ Some p → given.omitted p ≡ false
  unfolding entry
  entry_not_omitted s r p h = entry_for_not_omitted s r given.target p free h
