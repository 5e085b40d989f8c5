-- A ring without a candidate wants no phase: it wants to cross where another side is called, and otherwise to rest.
use Rattle.std.proofs.Common.{◌≡◌, ◌⊎◌, ◌∙◌, ℕ, Bool, true, false, not, cond, ◌&&◌, Option, Some, None, is_some, is_none, refl, ap, inl, inr}
use Rattle.std.proofs.lemmas.Bool.{cases_Bool}
use Rattle.tsb_types.specs.Lists.{later, not_later}
use Rattle.tsb_objects.specs.tsb_plan.Plan.{Plan, phases}
use Rattle.tsb_ring.specs.declared.want.Want.{Want}
use Rattle.tsb_ring.specs.declared.want.Want.TheVariants.{Cross, Rest}
use Rattle.tsb_ring.specs.Rings.{Ring, State, Given, in_ring, serving}
use Rattle.tsb_ring.specs.Wants.{fits, is_on_side, is_candidate, is_called_elsewhere, want_by_calls, want_found, is_idle_or_green, want, want_of, picked_before, taken}
use Rattle.tsb_ring.specs.Crossings.{wants_cross}
use Rattle.tsb_ring.specs.Next.{leaves}
use Rattle.tsb_ring.specs.Layer.{IsCalledHere, IsUncalled}
use Rattle.tsb_types.proofs.FirstLemmas.{first-none}

-- no want was found, or it is to rest
abbrev pub Rests : Option Want → Type 0
Rests w = (w ≡ None) ⊎ (w ≡ Some Rest)

-- no want was found, or it is to rest or to cross
abbrev pub Waits : Option Want → Type 0
Waits w = Rests w ⊎ (w ≡ Some Cross)

-- ## What follows of a want

pub taken-wait : (given : Given) (o : Option ℕ) (w : Option Want) → Waits w → taken given o w ≡ None
taken-wait given o w (inl (inl e)) = rw e refl
taken-wait given o w (inl (inr e)) = rw e refl
taken-wait given o w (inr e) = rw e refl

pub leaves-wait : (w : Option Want) → Waits w → leaves w ≡ false
leaves-wait w (inl (inl e)) = rw e refl
leaves-wait w (inl (inr e)) = rw e refl
leaves-wait w (inr e) = rw e refl

pub cross-rest : (w : Option Want) → Rests w → wants_cross w ≡ false
cross-rest w (inl e) = rw e refl
cross-rest w (inr e) = rw e refl

-- ## Wants by calls

by_calls : (plan : Plan) (s : State) (given : Given) (r : Ring) (picked : Option ℕ) → ((p : ℕ) → is_candidate plan s given r picked p ≡ false) →
    want_by_calls plan s given r picked ≡ cond (is_called_elsewhere plan s given) Cross Rest
by_calls plan s given r picked none =
    rw (
      first-none (is_candidate plan s given r picked) (later (s.last r) (given.sequence r)) none,
      first-none (is_candidate plan s given r picked) (not_later (s.last r) (given.sequence r)) none,
    ) refl

by_no_target : (plan : Plan) (s : State) (given : Given) (r : Ring) (picked : Option ℕ) (target : Option (ℕ → Bool)) (w : Want) → target ≡ None →
    want_by_calls plan s given r picked ≡ w → want_found plan s given r picked target ≡ w
by_no_target plan s given r picked None w free h = h
by_no_target plan s given r picked (Some target) w free h = absurd (cc)

found_at : (plan : Plan) (s : State) (given : Given) (r : Ring) (picked : Option ℕ) (w : Want) → given.target ≡ None →
    want_by_calls plan s given r picked ≡ w → (want plan s given r picked ≡ None) ⊎ (want plan s given r picked ≡ Some w)
unfolding want
found_at plan s given r picked w free h =
    elim (cases_Bool (is_none s.crossing && is_none (s.commitment r) && is_idle_or_green given (serving plan given r))) [
      | inl e ↦ inr (rw e (ap Some (by_no_target plan s given r picked given.target w free h)))
      | inr e ↦ inl (rw e refl)
    ]

-- ## Rings that are not called

unfit : (a b c d : Bool) → (a && b && c) ≡ false → (a && b && c && d) ≡ false
unfit true true true d h = absurd (cc)
unfit true true false d h = refl
unfit true false c d h = refl
unfit false b c d h = refl

no_candidate : (plan : Plan) (s : State) (given : Given) (r : Ring) (picked : Option ℕ) → IsUncalled plan s given r → (p : ℕ) → is_candidate plan s given r picked p ≡ false
no_candidate plan s given r picked u p =
    unfit (in_ring plan r p) (is_on_side plan s.side p) (given.callable p) (fits plan s given r picked p) (u.uncalled p)

not_elsewhere : (plan : Plan) (s : State) (given : Given) → IsCalledHere plan s given → is_called_elsewhere plan s given ≡ false
not_elsewhere plan s given h =
    ap (λ (o : Option ℕ). is_some o) (first-none (λ p. given.callable p && not (is_on_side plan s.side p)) (phases plan) h)

found_uncalled : (plan : Plan) (s : State) (given : Given) (r : Ring) (b : Bool) → IsUncalled plan s given r → is_called_elsewhere plan s given ≡ b →
    (want_of plan s given r ≡ None) ⊎ (want_of plan s given r ≡ Some (cond b Cross Rest))
unfolding want_of
found_uncalled plan s given r b u e =
    found_at plan s given r (picked_before plan s given r) (cond b Cross Rest) u.target
    (by_calls plan s given r (picked_before plan s given r) (no_candidate plan s given r (picked_before plan s given r) u) ∙ ap (λ (x : Bool). cond x Cross Rest) e)

pub rests_uncalled : (plan : Plan) (s : State) (given : Given) (r : Ring) → IsUncalled plan s given r → IsCalledHere plan s given → Rests (want_of plan s given r)
rests_uncalled plan s given r u here = found_uncalled plan s given r false u (not_elsewhere plan s given here)

pub waits_uncalled : (plan : Plan) (s : State) (given : Given) (r : Ring) → IsUncalled plan s given r → Waits (want_of plan s given r)
waits_uncalled plan s given r u = go (is_called_elsewhere plan s given) refl
  where
    go : (b : Bool) → is_called_elsewhere plan s given ≡ b → Waits (want_of plan s given r)
    go false e = inl (found_uncalled plan s given r false u e)
    go true e =
        elim (found_uncalled plan s given r true u e) [
          | inl n ↦ inl (inl n)
          | inr c ↦ inr c
        ]
