-- Of a phase that a preempt wants, whose ring is idle: it starts, or the other ring stands in its way. For
-- `wanted_phases_start`.
use Rattle.std.proofs.Common.{◌≡◌, ℕ, Bool, true, false, ◌&&◌, if◌then◌else◌, Option, Some, None, refl, sym, ap, ◌∙◌, inl, inr, ◌⊎◌}
use Rattle.std.proofs.lemmas.Bool.{cases_Bool, and_parts, eq-eqb, eqb-true, true≢false}
use Rattle.tsb_step.specs.tsb_types.Lists.{first}
use Rattle.tsb_step.specs.tsb_plan.Plan.{Plan, phases, is_concurrent, ring_of, side_of}
use Rattle.tsb_step.specs.tsb_rules.Rules.{first_broken}
use Rattle.tsb_step.proofs.tsb_rules.ConsistentLemmas.{together}
use Rattle.tsb_step.specs.tsb_ring.declared.want.Want.TheVariants.{Go, Cross, Rest, Stop}
use Rattle.tsb_step.specs.tsb_ring.Rings.{Ring, Ring1, Ring2, other, State, Given, in_ring, serving, number}
use Rattle.tsb_step.specs.tsb_ring.Wants.{go_or, concurrent_with, fits, is_on_side, is_targeted, serves_target, targeted_here, is_targeted_elsewhere, picked_before, want_of, pick}
use Rattle.tsb_step.specs.tsb_ring.Crossings.{entry}
use Rattle.tsb_step.specs.tsb_ring.Next.{starting}
use Rattle.tsb_step.specs.tsb_ring.Laws.{IsListed, IsPairwiseConcurrent}
use Rattle.tsb_step.proofs.tsb_ring.ClaimLemmas.{same_ring}
use Rattle.tsb_step.proofs.tsb_ring.WaitLemmas.{first-passes, targeted_by, targeted_candidate}
use Rattle.tsb_step.proofs.tsb_ring.WantLemmas.{and_four, first-among, pick_want, seen_is}
use Rattle.tsb_step.proofs.GivenLemmas.{listed_is_phase}
use Rattle.tsb_laws.proofs.safety.SideSoughtLemmas.{none_first}
use Rattle.tsb_laws.proofs.operation.preempt.TargetLemmas.{found_is, entry_is}
use Rattle.tsb_laws.proofs.operation.preempt.PressLemmas.{want_is}

-- why a phase that is wanted does not start in its idle ring: the other ring serves, or is committed to, one that it does not go with
pub data Blocks (s : State) (plan : Plan) (given : Given) (p : ℕ) : Type 0 where
  serves_one : (r : Ring) (q : ℕ) → serving plan given r ≡ Some q → is_concurrent plan p q ≡ false → Blocks s plan given p
  commits_one : (r : Ring) (c : ℕ) → s.commitment r ≡ Some c → Blocks s plan given p

module _ (plan : Plan) (s : State) (given : Given) (target : ℕ → Bool) (wanted : given.target ≡ Some target) (rules : first_broken plan ≡ None) (pairs : IsPairwiseConcurrent plan (Some target)) where
  -- two phases that are wanted, of one ring, are one
  pub wanted_alone : (r : Ring) (p q : ℕ) → in_ring plan r p ≡ true → in_ring plan r q ≡ true → IsListed plan p → IsListed plan q →
      is_targeted plan target p ≡ true → is_targeted plan target q ≡ true → p ≡ q
  wanted_alone r p q own_p own_q listed_p listed_q h k =
      elim (pairs p q listed_p listed_q h k) [
        | inl same ↦ same
        | inr both ↦ absurd ((together plan rules p q (listed_is_phase plan p listed_p) (listed_is_phase plan q listed_q) both).rings
            (eqb-true (ring_of plan p) (number r) own_p ∙ sym (eqb-true (ring_of plan q) (number r) own_q)))
      ]

  pub enters_it : (r : Ring) (p : ℕ) → in_ring plan r p ≡ true → IsListed plan p → is_targeted plan target p ≡ true → entry plan s given r ≡ Some p
  enters_it r p own listed h = entry_is plan s given target wanted r ∙ go (first (λ q. in_ring plan r q && is_targeted plan target q) (phases plan)) refl
    where
      go : (o : Option ℕ) → first (λ q. in_ring plan r q && is_targeted plan target q) (phases plan) ≡ o → o ≡ Some p
      go None e = absurd (none_first (λ q. in_ring plan r q && is_targeted plan target q) (phases plan) p listed (rw (own, h) refl) e)
      go (Some q) e =
          let both = and_parts (in_ring plan r q) (is_targeted plan target q) (first-passes (λ x. in_ring plan r x && is_targeted plan target x) (phases plan) q e) in
          ap Some (wanted_alone r q p both.0 own (first-among (λ x. in_ring plan r x && is_targeted plan target x) (phases plan) q e) listed both.1 h)

  -- what ring 1 has picked goes with it
  picked_goes : (r : Ring) (p : ℕ) → in_ring plan r p ≡ true → IsListed plan p → is_targeted plan target p ≡ true →
      concurrent_with plan p (picked_before plan s given r) ≡ true
  picked_goes Ring1 p own listed h = refl
  picked_goes Ring2 p own listed h = rw (seen_is plan s given) (go (pick plan s given Ring1) refl)
    where
      go : (o : Option ℕ) → pick plan s given Ring1 ≡ o → concurrent_with plan p o ≡ true
      go None e = refl
      go (Some q) e =
          let found = targeted_by plan s given Ring1 (picked_before plan s given Ring1) target q (found_is plan s given target wanted Ring1 (Go q) (pick_want plan s given Ring1 q e)) in
          let all = and_four (in_ring plan Ring1 q) (is_on_side plan s.side q) (is_targeted plan target q) (fits plan s given Ring1 (picked_before plan s given Ring1) q)
          (targeted_candidate plan s given Ring1 (picked_before plan s given Ring1) target q (found_is plan s given target wanted Ring1 (Go q) (pick_want plan s given Ring1 q e))) in
          elim (pairs p q listed (first-among (λ x. in_ring plan Ring1 x && is_on_side plan s.side x && is_targeted plan target x
          && fits plan s given Ring1 (picked_before plan s given Ring1) x) (phases plan) q found.1) h all.2) [
            | inr both ↦ both
            | inl same ↦ (let two : in_ring plan Ring2 q ≡ true = ap (λ (x : ℕ). in_ring plan Ring2 x) (sym same) ∙ own in
                let rings : Ring1 ≡ Ring2 = same_ring plan Ring1 Ring2 q all.0 two in absurd cc)
          ]

  blocked : (r : Ring) (p : ℕ) → in_ring plan r p ≡ true → IsListed plan p → is_targeted plan target p ≡ true →
      fits plan s given r (picked_before plan s given r) p ≡ false → Blocks s plan given p
  unfolding fits
  blocked r p own listed h unfit =
      go (concurrent_with plan p (serving plan given (other r))) (concurrent_with plan p (s.commitment (other r))) refl refl
    where
      by_service : (o : Option ℕ) → serving plan given (other r) ≡ o → concurrent_with plan p o ≡ false → Blocks s plan given p
      by_service None e k = absurd (true≢false k)
      by_service (Some q) e k = serves_one (other r) q e k

      by_commitment : (o : Option ℕ) → s.commitment (other r) ≡ o → concurrent_with plan p o ≡ false → Blocks s plan given p
      by_commitment None e k = absurd (true≢false k)
      by_commitment (Some c) e k = commits_one (other r) c e

      go : (a b : Bool) → concurrent_with plan p (serving plan given (other r)) ≡ a → concurrent_with plan p (s.commitment (other r)) ≡ b → Blocks s plan given p
      go false b k l = by_service (serving plan given (other r)) refl k
      go true false k l = by_commitment (s.commitment (other r)) refl l
      go true true k l =
          let bad : true ≡ false = rw (k, l, picked_goes r p own listed h) at unfit in absurd (true≢false bad)

  pub starts_or_waits : (r : Ring) (p : ℕ) → in_ring plan r p ≡ true → IsListed plan p → is_targeted plan target p ≡ true → side_of plan p ≡ s.side →
      s.crossing ≡ None → s.commitment r ≡ None → serving plan given r ≡ None → given.reverted p ≡ true →
      (starting plan s given r ≡ Some p) ⊎ Blocks s plan given p
  unfolding starting pick
  starts_or_waits r p own listed h here out none idle reverted =
      go (targeted_here plan s given r (picked_before plan s given r) target) refl
    where
      test : ℕ → Bool
      test = λ q. in_ring plan r q && is_on_side plan s.side q && is_targeted plan target q && fits plan s given r (picked_before plan s given r) q

      on : is_on_side plan s.side p ≡ true
      on = eq-eqb (side_of plan p) s.side here

      found : (o : Option ℕ) → targeted_here plan s given r (picked_before plan s given r) target ≡ o →
          want_of plan s given r ≡ Some (go_or o (if is_targeted_elsewhere plan s target then Cross else Stop))
      found o k =
          want_is plan s given target wanted rules pairs r out none (rw idle refl)
          ∙ ap (λ (x : Option ℕ). Some (if serves_target plan target x then Rest else go_or (targeted_here plan s given r (picked_before plan s given r) target)
          (if is_targeted_elsewhere plan s target then Cross else Stop))) idle
          ∙ ap (λ (x : Option ℕ). Some (go_or x (if is_targeted_elsewhere plan s target then Cross else Stop))) k

      go : (o : Option ℕ) → first test (phases plan) ≡ o → (starting plan s given r ≡ Some p) ⊎ Blocks s plan given p
      go (Some q) e =
          let all = and_four (in_ring plan r q) (is_on_side plan s.side q) (is_targeted plan target q) (fits plan s given r (picked_before plan s given r) q)
          (first-passes test (phases plan) q e) in
          let same : q ≡ p = wanted_alone r q p all.0 own (first-among test (phases plan) q e) listed all.2 h in
          let w : want_of plan s given r ≡ Some (Go p) = found (Some q) e ∙ ap (λ (x : ℕ). Some (Go x)) same in
          inl (rw (none, idle, w, reverted) refl)
      go None e =
          elim (cases_Bool (fits plan s given r (picked_before plan s given r) p)) [
            | inl fit ↦ absurd (none_first test (phases plan) p listed (rw (own, on, h, fit) refl) e)
            | inr unfit ↦ inr (blocked r p own listed h unfit)
          ]
