-- A ring whose phase in service is not ready makes no move by its want.
use Rattle.std.proofs.Common.{◌≡◌, ℕ, true, false, ◌&&◌, ◌||◌, Option, Some, None, refl, sym, ◌∙◌, inl, inr, ◌⊎◌}
use Rattle.std.proofs.lemmas.Bool.{cases_Bool}
use Rattle.std.proofs.Math.Bool.{and-false}
use Rattle.tsb_types.specs.Intervals.{is_green}
use Rattle.tsb_objects.specs.tsb_plan.Plan.{Plan}
use Rattle.tsb_ring.specs.declared.want.Want.{Want}
use Rattle.tsb_ring.specs.declared.found.RingChoice.{RingChoice}
use Rattle.tsb_ring.specs.Rings.{Ring, Ring1, Ring2, own_ring, State, Given, serving}
use Rattle.tsb_ring.specs.Wants.{want_of, pick, taken}
use Rattle.tsb_ring.specs.Crossings.{wants_cross, joins, ring_joins, begins}
use Rattle.tsb_ring.specs.Next.{leaves}
use Rattle.tsb_ring.specs.Layer.{is_heeded, IsFound}
use Rattle.tsb_ring.proofs.OwnLemmas.{own_serving}
use Rattle.tsb_ring.proofs.StillLemmas.{joins_not, taken-none, unserved_want}

-- ## What it picks

taken_unheeded : (given : Given) (o : Option ℕ) (w : Option Want) → is_heeded given o ≡ false → taken given o w ≡ None
taken_unheeded given None w h = absurd (cc)
taken_unheeded given (Some q) w h = taken-none given q w h

pub unheeded_pick : (plan : Plan) (s : State) (given : Given) (r : Ring) → is_heeded given (serving plan given r) ≡ false → pick plan s given r ≡ None
unfolding pick
unheeded_pick plan s given r h = taken_unheeded given (serving plan given r) (want_of plan s given r) h

-- ## Crossings

-- its want is known, or it joins in no crossing
known : (plan : Plan) (s : State) (given : Given) (r : Ring) (o : Option ℕ) (w : Option Want) → serving plan given r ≡ o → is_heeded given o ≡ false → w ≡ None →
    (w ≡ want_of plan s given r) ⊎ ((v : Option Want) → joins given o (s.commitment r) v ≡ false)
known plan s given r None w e h n = absurd (cc)
known plan s given r (Some q) w e h n =
    elim (cases_Bool (is_green (given.interval q))) [
      | inl g ↦ inr (λ v. joins_not (given.interval q) (given.ready q) v (s.commitment r) g h)
      | inr g ↦ inl (n ∙ sym (unserved_want plan s given r q e g))
    ]

found_known : (plan : Plan) (s : State) (given : Given) (r : Ring) (found : RingChoice) → IsFound plan s given r found →
    (found.want ≡ want_of plan s given r) ⊎ ((v : Option Want) → joins given (serving plan given r) (s.commitment r) v ≡ false)
found_known plan s given r found is =
    elim (cases_Bool (is_heeded given (serving plan given r))) [
      | inl h ↦ inl (is.want h)
      | inr h ↦ known plan s given r (serving plan given r) found.want refl h (is.unheeded h)
    ]

pub begins_found : (plan : Plan) (s : State) (given : Given) (one two : RingChoice) → IsFound plan s given Ring1 one → IsFound plan s given Ring2 two →
    (joins given one.own (s.commitment Ring1) one.want && joins given two.own (s.commitment Ring2) two.want && (wants_cross one.want || wants_cross two.want)) ≡ begins plan s given
unfolding begins
begins_found plan s given one two first second = go (found_known plan s given Ring1 one first) (found_known plan s given Ring2 two second)
  where
    go : (one.want ≡ want_of plan s given Ring1) ⊎ ((v : Option Want) → joins given (serving plan given Ring1) (s.commitment Ring1) v ≡ false) →
        (two.want ≡ want_of plan s given Ring2) ⊎ ((v : Option Want) → joins given (serving plan given Ring2) (s.commitment Ring2) v ≡ false) →
        (joins given one.own (s.commitment Ring1) one.want && joins given two.own (s.commitment Ring2) two.want && (wants_cross one.want || wants_cross two.want))
        ≡ (ring_joins plan s given Ring1 && ring_joins plan s given Ring2 && (wants_cross (want_of plan s given Ring1) || wants_cross (want_of plan s given Ring2)))
    go (inr k) like = rw (first.own, k one.want, k (want_of plan s given Ring1)) refl
    go (inl same) (inr k) = rw (second.own, k two.want, k (want_of plan s given Ring2), and-false (joins given one.own (s.commitment Ring1) one.want), and-false (ring_joins plan s given Ring1)) refl
    go (inl same) (inl like) = rw (first.own, second.own, same, like) refl

-- ## Ends

pub leaves_found : (plan : Plan) (s : State) (given : Given) (r : Ring) (found : RingChoice) (p : ℕ) → IsFound plan s given r found → serving plan given r ≡ Some p →
    (given.ready p && leaves found.want) ≡ (given.ready p && leaves (want_of plan s given (own_ring plan p)))
leaves_found plan s given r found p is e =
    elim (cases_Bool (given.ready p)) [
      | inl h ↦ rw (own_serving plan given r p e, is.want (heeded h)) refl
      | inr h ↦ rw h refl
    ]
  where
    heeded : given.ready p ≡ true → is_heeded given (serving plan given r) ≡ true
    heeded h = rw e h
