-- What a ring claims: its phase in service, its commitment and its pick. But in a crossing, all that one ring claims is
-- concurrent with all that the other does.
use Rattle.std.proofs.Common.{◌≡◌, ℕ, true, Some, None, refl, inl, inr, ◌∙◌, arith}
use Rattle.std.proofs.lemmas.Bool.{eqb-true, cases_Bool}
use Rattle.tsb_objects.specs.tsb_plan.Plan.{Plan, ring_of, is_concurrent}
use Rattle.tsb_ring.specs.Rings.{Ring, Ring1, Ring2, State, Given, in_ring, own_ring}
use Rattle.tsb_ring.specs.Wants.{pick}
use Rattle.tsb_ring.specs.Laws.{Serves, IsListed, IsSymmetric, IsGiven, IsSound}
use Rattle.tsb_ring.proofs.WaitLemmas.{is_serving}
use Rattle.tsb_ring.proofs.WantLemmas.{Wanted, pick_wanted, seen_is, fitting}

-- a phase has one ring
pub one_ring : (plan : Plan) (p : ℕ) → in_ring plan Ring1 p ≡ true → in_ring plan Ring2 p ≡ true → ⊥
one_ring plan p h k =
    let one : ring_of plan p ≡ 1 = eqb-true (ring_of plan p) 1 h in
    let two : ring_of plan p ≡ 2 = eqb-true (ring_of plan p) 2 k in
    omega arith

pub same_ring : (plan : Plan) (r r' : Ring) (p : ℕ) → in_ring plan r p ≡ true → in_ring plan r' p ≡ true → r ≡ r'
same_ring plan Ring1 Ring1 p h k = refl
same_ring plan Ring1 Ring2 p h k = absurd (one_ring plan p h k)
same_ring plan Ring2 Ring1 p h k = absurd (one_ring plan p k h)
same_ring plan Ring2 Ring2 p h k = refl

pub ring_of_is : (plan : Plan) (r : Ring) (p : ℕ) → in_ring plan r p ≡ true → own_ring plan p ≡ r
ring_of_is plan Ring1 p h = rw h refl
ring_of_is plan Ring2 p h =
    elim (cases_Bool (in_ring plan Ring1 p)) [
      | inl e ↦ absurd (one_ring plan p e h)
      | inr e ↦ rw e refl
    ]

-- ## Claims

pub data Claim (plan : Plan) (s : State) (given : Given) (r : Ring) (p : ℕ) : Type 0 where
  serves : in_ring plan r p ≡ true → Serves given.interval p → Claim plan s given r p
  promises : s.commitment r ≡ Some p → Claim plan s given r p
  picks : pick plan s given r ≡ Some p → Claim plan s given r p

pub claim_listed : (plan : Plan) (s : State) (given : Given) (r : Ring) (p : ℕ) → IsSound plan given.interval s → IsGiven plan given → Claim plan s given r p → IsListed plan p
claim_listed plan s given r p sound ok (serves a b) = sound.listed p b
claim_listed plan s given r p sound ok (promises k) = (sound.owned r p k).1
claim_listed plan s given r p sound ok (picks k) =
    let w : Wanted plan s given r _ p = pick_wanted plan s given r p ok k in w.listed

pub claims_agree : (plan : Plan) (s : State) (given : Given) (p q : ℕ) → IsSymmetric plan → IsSound plan given.interval s → IsGiven plan given → s.crossing ≡ None → Claim plan s given Ring1 p → Claim plan s given Ring2 q → is_concurrent plan p q ≡ true
claims_agree plan s given p q symmetric sound ok apart (serves a b) (serves c d) = sound.served p q a c b d
claims_agree plan s given p q symmetric sound ok apart (serves a b) (promises k) = symmetric q p (claim_listed plan s given Ring2 q sound ok (promises k)) (claim_listed plan s given Ring1 p sound ok (serves a b)) (sound.outside apart Ring2 q p k a b)
claims_agree plan s given p q symmetric sound ok apart (serves a b) (picks k) =
    let w : Wanted plan s given Ring2 _ q = pick_wanted plan s given Ring2 q ok k in
    symmetric q p (claim_listed plan s given Ring2 q sound ok (picks k)) (claim_listed plan s given Ring1 p sound ok (serves a b)) ((fitting plan s given Ring2 _ q w.fitting).with_served p (is_serving plan s given Ring1 p sound a b))
claims_agree plan s given p q symmetric sound ok apart (promises h) (serves c d) = sound.outside apart Ring1 p q h c d
claims_agree plan s given p q symmetric sound ok apart (promises h) (promises k) = sound.promised p q h k
claims_agree plan s given p q symmetric sound ok apart (promises h) (picks k) =
    let w : Wanted plan s given Ring2 _ q = pick_wanted plan s given Ring2 q ok k in
    symmetric q p (claim_listed plan s given Ring2 q sound ok (picks k)) (claim_listed plan s given Ring1 p sound ok (promises h)) ((fitting plan s given Ring2 _ q w.fitting).with_promised p h)
claims_agree plan s given p q symmetric sound ok apart (picks h) (serves c d) =
    let w : Wanted plan s given Ring1 _ p = pick_wanted plan s given Ring1 p ok h in
    (fitting plan s given Ring1 _ p w.fitting).with_served q (is_serving plan s given Ring2 q sound c d)
claims_agree plan s given p q symmetric sound ok apart (picks h) (promises k) =
    let w : Wanted plan s given Ring1 _ p = pick_wanted plan s given Ring1 p ok h in
    (fitting plan s given Ring1 _ p w.fitting).with_promised q k
claims_agree plan s given p q symmetric sound ok apart (picks h) (picks k) =
    let w : Wanted plan s given Ring2 _ q = pick_wanted plan s given Ring2 q ok k in
    symmetric q p (claim_listed plan s given Ring2 q sound ok (picks k)) (claim_listed plan s given Ring1 p sound ok (picks h)) ((fitting plan s given Ring2 _ q w.fitting).with_picked p (seen_is plan s given ∙ h))
