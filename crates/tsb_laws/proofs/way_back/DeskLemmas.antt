-- A desk stays sound as a station sets a value.
use Rattle.std.proofs.Common.{suc, ◌≡◌, ◌≢◌, ℕ, ◌<◌, ◌≤◌, nat_le, Bool, true, false, not, ◌&&◌, if◌then◌else◌, List, [], ◌∷◌, length, All, AllPairs, None, is_some, refl, sym, ap, subst, arith, ◌∙◌, inl, inr}
use Rattle.std.proofs.lemmas.Bool.{cases_Bool, true≢false}
use Rattle.std.proofs.lemmas.Bool.Decides.{nat_tests}
use Rattle.std.proofs.lemmas.List.Elements.{All-nil, All-cons}
use Rattle.std.proofs.lemmas.List.Kept.{AllPairs-cons}
use Rattle.tsb_step.specs.tsb_plan.declared.object.ObjectId.{ObjectId}
use Rattle.tsb_step.specs.tsb_plan.Objects.{order}
use Rattle.tsb_step.specs.tsb_plan.Plan.{is_same}
use Rattle.tsb_step.specs.tsb_plan.PlanOf.{put_refusal}
use Rattle.tsb_step.proofs.tsb_plan.PlanLemmas.{same-parts, same-itself}
use Rattle.tsb_step.proofs.tsb_plan.TableLemmas.{order-injective}
use Rattle.tsb_step.specs.tsb_transact.declared.edit.Edit.{Edit}
use Rattle.tsb_step.specs.tsb_transact.Desk.{Desk, IsSoundDesk, is_open, is_of, has_edit_of, with_edit}
use Rattle.tsb_step.specs.tsb_transact.Calls.{has_no_room, with_set}

-- ## Edits with one more

rest-of : {X : Type 0} (P : X → Type 0) (x : X) (xs : List X) → All P (x ∷ xs) → All P xs
rest-of P x xs h = λ i d below. h (suc i) d (omega (arith, below))

all-with : (P : Edit → Type 0) (e : Edit) (es : List Edit) → P e → All P es → All P (with_edit e es)
all-with P e [] pe h = All-cons P e [] pe (All-nil P)
all-with P e (x ∷ xs) pe h = go (is_of e.id x) (all-with P e xs pe (rest-of P x xs h))
  where
    go : (b : Bool) → All P (with_edit e xs) → All P (if b then e ∷ xs else x ∷ with_edit e xs)
    go true later = All-cons P e xs pe (rest-of P x xs h)
    go false later = All-cons P x (with_edit e xs) (h 0 x (omega arith)) later

abbrev apart : Edit → Edit → Type 0
apart x y = x.id ≢ y.id

same-id : (e x : Edit) → is_of e.id x ≡ true → e.id ≡ x.id
same-id e x f =
    let both : (order e.id.object ≡ order x.id.object) × (e.id.index ≡ x.id.index) = same-parts e.id.object x.id.object e.id.index x.id.index f in
    λ j. record { object = order-injective e.id.object x.id.object both.0 j; index = both.1 j }

other-id : (e x : Edit) → is_of e.id x ≡ false → x.id ≢ e.id
other-id e x f same =
    true≢false (sym (same-itself e.id.object e.id.index) ∙ ap (λ (id : ObjectId). is_same e.id.object e.id.index id.object id.index) (sym same) ∙ f)

once-with : (e : Edit) (es : List Edit) → AllPairs apart es → AllPairs apart (with_edit e es)
once-with e [] h = AllPairs-cons apart e [] (All-nil (apart e)) h
once-with e (x ∷ xs) h =
    let tail : AllPairs apart xs = λ i j d lt within. h (suc i) (suc j) d (omega (arith, lt)) (omega (arith, within)) in
    let head : All (apart x) xs = λ j d within. h 0 (suc j) d (omega arith) (omega (arith, within)) in
    elim (cases_Bool (is_of e.id x)) [
      | inl f ↦ rw f (AllPairs-cons apart e xs (subst (λ (id : ObjectId). All (λ (y : Edit). id ≢ y.id) xs) (sym (same-id e x f)) head) tail)
      | inr f ↦ rw f (AllPairs-cons apart x (with_edit e xs) (all-with (apart x) e xs (other-id e x f) head) (once-with e xs tail))
    ]

long-same : (e : Edit) (es : List Edit) → has_edit_of e.id es ≡ true → length (with_edit e es) ≡ length es
long-same e [] h = absurd (true≢false (sym h))
long-same e (x ∷ xs) h = go (is_of e.id x) refl (λ k. long-same e xs k)
  where
    go : (b : Bool) → is_of e.id x ≡ b → (has_edit_of e.id xs ≡ true → length (with_edit e xs) ≡ length xs) →
        length (if b then e ∷ xs else x ∷ with_edit e xs) ≡ length (x ∷ xs)
    go true f later = refl
    go false f later = ap suc (later (rw f at h))

long-more : (e : Edit) (es : List Edit) → length (with_edit e es) ≤ suc (length es)
long-more e [] = omega arith
long-more e (x ∷ xs) = go (is_of e.id x) (long-more e xs)
  where
    go : (b : Bool) → length (with_edit e xs) ≤ suc (length xs) → length (if b then e ∷ xs else x ∷ with_edit e xs) ≤ suc (length (x ∷ xs))
    go true later = omega arith
    go false later = omega (arith, later)

room-with : (id : ObjectId) (e : Edit) (es : List Edit) → e.id ≡ id → length es ≤ 64 → has_no_room id es ≡ false → length (with_edit e es) ≤ 64
room-with id e es it few room =
    elim (cases_Bool (has_edit_of id es)) [
      | inl has ↦ (let same : length (with_edit e es) ≡ length es = long-same e es (ap (λ (i : ObjectId). has_edit_of i es) it ∙ has) in
          omega (arith, same, few))
      | inr none ↦ (let space : length es < 64 = spare (length es) (has_edit_of id es) none room in
          let more : length (with_edit e es) ≤ suc (length es) = long-more e es in
          omega (arith, space, more))
    ]
  where
    spare : (n : ℕ) (b : Bool) → b ≡ false → (nat_le 64 n && not b) ≡ false → n < 64
    spare n true f h = absurd (true≢false f)
    spare n false f h = grind (arith, nat_tests, h)

-- ## The desk

pub sound-set : (id : ObjectId) (v : ℕ) (d : Desk) → IsSoundDesk d → is_some d.owner ≡ true → put_refusal id v ≡ None →
    has_no_room id d.edits ≡ false → IsSoundDesk (with_set id v d)
sound-set id v d sound owned taken room =
    let e : Edit = record { id = id; value = v } in
    record {
      owned = owned;
      kept = refl;
      none = λ n. absurd (true≢false (ap is_open n));
      once = once-with e d.edits sound.once;
      taken = all-with (λ (x : Edit). put_refusal x.id x.value ≡ None) e d.edits taken sound.taken;
      room = room-with id e d.edits refl sound.room room;
    }
