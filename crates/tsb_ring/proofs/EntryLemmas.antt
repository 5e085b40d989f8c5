-- What rings are bound to after a tick: what they enter in a crossing that begins, the commitments that were, and their
-- picks.
use Rattle.std.proofs.Common.{◌≡◌, ℕ, Bool, true, false, not, ◌&&◌, ◌||◌, Option, Some, None, is_some, refl, inl, inr, ◌⊎◌, ◌∙◌}
use Rattle.std.proofs.lemmas.Bool.{and_parts, or_cases}
use Rattle.tsb_types.specs.Lists.{first, among, or_else}
use Rattle.tsb_objects.specs.tsb_plan.Plan.{Plan, phases, is_concurrent, is_enabled, has_dual_entry}
use Rattle.tsb_ring.specs.declared.want.Want.{Want}
use Rattle.tsb_ring.specs.declared.want.Want.TheVariants.{Go, Cross, Rest, Stop}
use Rattle.tsb_ring.specs.Rings.{Ring, Ring1, Ring2, State, Given, in_ring, serving}
use Rattle.tsb_ring.specs.Wants.{concurrent_with, is_on_side, is_targeted, want_of, pick}
use Rattle.tsb_ring.specs.Crossings.{wants_cross, ring_joins, begins, target_side, may_enter, dual, is_called_in, called_in_ring_1, called_in_ring_2, entry_by_calls, entry_for, entry, own_commitment, committed}
use Rattle.tsb_ring.specs.Next.{starting, new_commitment}
use Rattle.tsb_ring.specs.Laws.{IsListed, IsSymmetric, IsPairwiseConcurrent, IsGiven, IsSound}
use Rattle.tsb_ring.proofs.MoveLemmas.{and_three}
use Rattle.tsb_ring.proofs.WaitLemmas.{cond_is}
use Rattle.tsb_ring.proofs.WantLemmas.{and_four, first-among, free, with_some}
use Rattle.tsb_types.proofs.FirstLemmas.{first-passes}
use Rattle.tsb_ring.proofs.ClaimLemmas.{one_ring}
use Rattle.tsb_types.proofs.OptionLemmas.{is-none}

pub cross_is : (w : Option Want) → wants_cross w ≡ true → w ≡ Some Cross
cross_is None h = absurd (cc)
cross_is (Some (Go p)) h = absurd (cc)
cross_is (Some Cross) h = refl
cross_is (Some Rest) h = absurd (cc)
cross_is (Some Stop) h = absurd (cc)

-- where the first of two gives nothing, the second gave it
pub else_cases : (a b : Option ℕ) (p : ℕ) → or_else a b ≡ Some p → (a ≡ Some p) ⊎ ((a ≡ None) × (b ≡ Some p))
else_cases None b p h = inr (refl, h)
else_cases (Some x) b p h = inl h

module _ (plan : Plan) (s : State) (given : Given) (yellow_done : ℕ → Bool) (symmetric : IsSymmetric plan) (sound : IsSound plan given.interval s) (ok : IsGiven plan given) where
  -- ## Commitments after the tick

  -- no crossing begins while one is under way
  pub begins_apart : begins plan s given ≡ true → s.crossing ≡ None
  unfolding begins
  begins_apart h =
      elim (or_cases (wants_cross (want_of plan s given Ring1)) (wants_cross (want_of plan s given Ring2))
      (and_three (ring_joins plan s given Ring1) (ring_joins plan s given Ring2) (wants_cross (want_of plan s given Ring1) || wants_cross (want_of plan s given Ring2)) h).2) [
        | inl k ↦ (free plan s given Ring1 Cross (cross_is (want_of plan s given Ring1) k)).no_crossing
        | inr k ↦ (free plan s given Ring2 Cross (cross_is (want_of plan s given Ring2) k)).no_crossing
      ]

  -- a commitment in force is a crossing's entry, the one that was, or the ring's pick
  pub data Commits (r : Ring) (p : ℕ) : Type 0 where
    enters : begins plan s given ≡ true → entry plan s given r ≡ Some p → Commits r p
    stands : begins plan s given ≡ false → s.commitment r ≡ Some p → Commits r p
    makes : begins plan s given ≡ false → pick plan s given r ≡ Some p → Commits r p

  own_cases : (r : Ring) (p : ℕ) (c was : Option ℕ) → begins plan s given ≡ false → s.commitment r ≡ c → own_commitment c was (pick plan s given r) ≡ Some p → Commits r p
  own_cases r p (Some c) was b e h = stands b (e ∙ h)
  own_cases r p None None b e h = absurd (cc)
  own_cases r p None (Some q) b e h = makes b h

  pub commits : (r : Ring) (p : ℕ) → committed plan s given r ≡ Some p → Commits r p
  unfolding committed
  commits r p h =
      elim (cond_is (begins plan s given) (entry plan s given r) (own_commitment (s.commitment r) (serving plan given r) (pick plan s given r)) (Some p) h) [
        | inl k ↦ enters k.0 k.1
        | inr k ↦ own_cases r p (s.commitment r) (serving plan given r) k.0 refl k.1
      ]

  pub new_commits : (r : Ring) (p : ℕ) → new_commitment plan s given r ≡ Some p → (starting plan s given r ≡ None) × (committed plan s given r ≡ Some p)
  unfolding new_commitment
  new_commits r p h =
      elim (cond_is (is_some (starting plan s given r)) None (committed plan s given r) (Some p) h) [
        | inl k ↦ (let none : None ≡ Some p = k.1 in absurd (cc))
        | inr k ↦ (is-none (starting plan s given r) k.0, k.1)
      ]

  -- ## The commitments of a crossing

  may_enter_parts : (d : ℕ) (r : Ring) (q p : ℕ) → may_enter plan given d r q p ≡ true → (in_ring plan r p ≡ true) × (is_concurrent plan p q ≡ true)
  may_enter_parts d r q p h =
      let outer : ((in_ring plan r p && is_on_side plan d p && is_enabled plan p && has_dual_entry plan p && not (given.omitted p)) ≡ true) × (is_concurrent plan p q ≡ true) =
      and_parts (in_ring plan r p && is_on_side plan d p && is_enabled plan p && has_dual_entry plan p && not (given.omitted p)) (is_concurrent plan p q) h in
      let inner : ((in_ring plan r p && is_on_side plan d p && is_enabled plan p && has_dual_entry plan p) ≡ true) × (not (given.omitted p) ≡ true) =
      and_parts (in_ring plan r p && is_on_side plan d p && is_enabled plan p && has_dual_entry plan p) (not (given.omitted p)) outer.0 in
      ((and_four (in_ring plan r p) (is_on_side plan d p) (is_enabled plan p) (has_dual_entry plan p) inner.0).0, outer.1)

  dual_agrees : (d : ℕ) (r : Ring) (o : Option ℕ) (p q : ℕ) → dual plan given d r o ≡ Some p → o ≡ Some q → is_concurrent plan p q ≡ true
  dual_agrees d r None p q h e = absurd (cc)
  dual_agrees d r (Some x) p q h e =
      let same : x ≡ q = cc in
      rw same at (may_enter_parts d r x p (first-passes (may_enter plan given d r x) (given.sequence r) p h)).1

  dual_owned : (d : ℕ) (r : Ring) (o : Option ℕ) (p : ℕ) → dual plan given d r o ≡ Some p → (in_ring plan r p ≡ true) × (among p (phases plan) ≡ true)
  dual_owned d r None p h = absurd (cc)
  dual_owned d r (Some x) p h =
      let own : in_ring plan r p ≡ true = (may_enter_parts d r x p (first-passes (may_enter plan given d r x) (given.sequence r) p h)).0 in
      (own, ok.sequenced r p own (first-among (may_enter plan given d r x) (given.sequence r) p h))

  second_called : (d q : ℕ) → called_in_ring_2 plan given d ≡ Some q → (is_called_in plan given d Ring2 q ≡ true) × (concurrent_with plan q (called_in_ring_1 plan given d) ≡ true)
  second_called d q h =
      and_parts (is_called_in plan given d Ring2 q) (concurrent_with plan q (called_in_ring_1 plan given d))
      (first-passes (λ p. is_called_in plan given d Ring2 p && concurrent_with plan p (called_in_ring_1 plan given d)) (given.sequence Ring2) q h)

  entry_owned_by_calls : (d : ℕ) (r : Ring) (p : ℕ) → entry_by_calls plan given d r ≡ Some p → (in_ring plan r p ≡ true) × (among p (phases plan) ≡ true)
  entry_owned_by_calls d Ring1 p h =
      elim (else_cases (called_in_ring_1 plan given d) (dual plan given d Ring1 (called_in_ring_2 plan given d)) p h) [
        | inl a ↦ (let own : in_ring plan Ring1 p ≡ true =
            (and_three (in_ring plan Ring1 p) (is_on_side plan d p) (given.callable p) (first-passes (is_called_in plan given d Ring1) (given.sequence Ring1) p a)).0 in
            (own, ok.sequenced Ring1 p own (first-among (is_called_in plan given d Ring1) (given.sequence Ring1) p a)))
        | inr a ↦ dual_owned d Ring1 (called_in_ring_2 plan given d) p a.1
      ]
  entry_owned_by_calls d Ring2 p h =
      elim (else_cases (called_in_ring_2 plan given d) (dual plan given d Ring2 (called_in_ring_1 plan given d)) p h) [
        | inl a ↦ (let own : in_ring plan Ring2 p ≡ true =
            (and_three (in_ring plan Ring2 p) (is_on_side plan d p) (given.callable p) (second_called d p a).0).0 in
            (own, ok.sequenced Ring2 p own (first-among (λ p. is_called_in plan given d Ring2 p && concurrent_with plan p (called_in_ring_1 plan given d)) (given.sequence Ring2) p a)))
        | inr a ↦ dual_owned d Ring2 (called_in_ring_1 plan given d) p a.1
      ]

  entries_by_calls : (d p q : ℕ) → entry_by_calls plan given d Ring1 ≡ Some p → entry_by_calls plan given d Ring2 ≡ Some q → is_concurrent plan p q ≡ true
  entries_by_calls d p q h k =
      elim (else_cases (called_in_ring_1 plan given d) (dual plan given d Ring1 (called_in_ring_2 plan given d)) p h) [
        | inl a ↦ elim (else_cases (called_in_ring_2 plan given d) (dual plan given d Ring2 (called_in_ring_1 plan given d)) q k) [
          | inl b ↦ symmetric q p (entry_owned_by_calls d Ring2 q k).1 (entry_owned_by_calls d Ring1 p h).1
              (with_some plan q (called_in_ring_1 plan given d) p (second_called d q b).1 a)
          | inr b ↦ symmetric q p (entry_owned_by_calls d Ring2 q k).1 (entry_owned_by_calls d Ring1 p h).1
              (dual_agrees d Ring2 (called_in_ring_1 plan given d) q p b.1 a)
        ]
        | inr a ↦ elim (else_cases (called_in_ring_2 plan given d) (dual plan given d Ring2 (called_in_ring_1 plan given d)) q k) [
          | inl b ↦ dual_agrees d Ring1 (called_in_ring_2 plan given d) p q a.1 b
          | inr b ↦ (let none : called_in_ring_2 plan given d ≡ None = b.0 in let nothing : dual plan given d Ring1 None ≡ Some p = (rw none at a.1) in absurd (cc))
        ]
      ]

  target_parts : (target : ℕ → Bool) (r : Ring) (p : ℕ) → first (λ x. in_ring plan r x && is_targeted plan target x) (phases plan) ≡ Some p →
      (in_ring plan r p ≡ true) × (is_targeted plan target p ≡ true)
  target_parts target r p h =
      and_parts (in_ring plan r p) (is_targeted plan target p) (first-passes (λ x. in_ring plan r x && is_targeted plan target x) (phases plan) p h)

  target_listed : (target : ℕ → Bool) (r : Ring) (p : ℕ) → first (λ x. in_ring plan r x && is_targeted plan target x) (phases plan) ≡ Some p → IsListed plan p
  target_listed target r p h = first-among (λ x. in_ring plan r x && is_targeted plan target x) (phases plan) p h

  entries_for : (target : Option (ℕ → Bool)) (p q : ℕ) → IsPairwiseConcurrent plan target → entry_for plan s given Ring1 target ≡ Some p → entry_for plan s given Ring2 target ≡ Some q → is_concurrent plan p q ≡ true
  entries_for None p q pairwise h k = entries_by_calls (target_side plan s given) p q h k
  entries_for (Some target) p q pairwise h k =
      elim (pairwise p q (target_listed target Ring1 p h) (target_listed target Ring2 q k) (target_parts target Ring1 p h).1 (target_parts target Ring2 q k).1) [
        | inl same ↦ absurd (one_ring plan q (rw same at (target_parts target Ring1 p h).0) (target_parts target Ring2 q k).0)
        | inr both ↦ both
      ]

  pub entries_agree : (p q : ℕ) → entry plan s given Ring1 ≡ Some p → entry plan s given Ring2 ≡ Some q → is_concurrent plan p q ≡ true
  unfolding entry
  entries_agree p q h k = entries_for given.target p q ok.pairwise h k

  entry_owned_for : (target : Option (ℕ → Bool)) (r : Ring) (p : ℕ) → entry_for plan s given r target ≡ Some p → (in_ring plan r p ≡ true) × (among p (phases plan) ≡ true)
  entry_owned_for None r p h = entry_owned_by_calls (target_side plan s given) r p h
  entry_owned_for (Some target) r p h = ((target_parts target r p h).0, target_listed target r p h)

  pub entry_owned : (r : Ring) (p : ℕ) → entry plan s given r ≡ Some p → (in_ring plan r p ≡ true) × (among p (phases plan) ≡ true)
  unfolding entry
  entry_owned r p h = entry_owned_for given.target r p h
