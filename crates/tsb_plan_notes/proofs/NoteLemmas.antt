-- The members of an object, one after another, and notes that are added.
use Rattle.std.proofs.Common.{◌≡◌, ◌∙◌, ℕ, zero, suc, ◌+◌, ◌<◌, Bool, true, false, if◌then◌else◌, List, [], ◌∷◌, ◌++◌, append_assoc, length, drop, get_or, ap, inl, inr, refl, subst, sym, arith, IfOk, MatchResult, OnOk, Some, None, bytes_eq}
use Rattle.std.proofs.lemmas.Bool.{cases_Bool}
use Rattle.std.proofs.lemmas.Option.{same_Some}
use Rattle.std.proofs.lemmas.Str.{IsUtf8-from_is_utf8, is_utf8-from_IsUtf8}
use Rattle.std.specs.Result.{is_ok}
use Rattle.std.specs.declared.result.Result.{Result}
use Rattle.std.specs.declared.result.Result.TheVariants.{Ok, Err}
use Rattle.std.specs.Prelude.{IsUtf8}
use Rattle.std.specs.Str.{is_utf8}
use Rattle.std.specs.Borrow.{Bor}
use Rattle.json.specs.Json.{Json, Members, document, no_members, member}
use Rattle.json.specs.Tree.{HasNumbers, MembersHaveNumbers}
use Rattle.json.specs.Value.{members_view, value_view}
use Rattle.json.specs.declared.error.Error.{Error}
use Rattle.json.specs.declared.error.Error.TheVariants.{Invalid}
use Rattle.json.specs.declared.value.Value.{Value}
use Rattle.tsb_plan_notes.specs.Notes.{document_notes, next_of, notes_of, value_notes}

-- its value has numbers, and so have those after it
numbers-from : {A : Type 0} (ms : List (Bor (List ℕ) × Value A)) (k : ℕ) (d : Bor (List ℕ) × Value A) → k < length ms → MembersHaveNumbers (members_view ms)
    → HasNumbers (value_view (get_or ms k d).1) × MembersHaveNumbers (members_view (drop (suc k) ms))
numbers-from [] k d below h = absurd (omega (arith, below))
numbers-from (m ∷ ms) zero d below h = h
numbers-from (m ∷ ms) (suc k) d below h = numbers-from ms k d (omega (arith, below)) h.1

pub numbers-at : {A : Type 0} (ms : List (Bor (List ℕ) × Value A)) (k : ℕ) (d : Bor (List ℕ) × Value A) → k < length ms → MembersHaveNumbers (members_view ms)
    → HasNumbers (value_view (get_or ms k d).1) × MembersHaveNumbers (members_view (drop (k + 1) ms))
numbers-at ms k d below h =
    let next : suc k ≡ k + 1 = omega arith in
    subst (λ (n : ℕ). HasNumbers (value_view (get_or ms k d).1) × MembersHaveNumbers (members_view (drop n ms))) next (numbers-from ms k d below h)

-- so has one that is found
pub next-numbers : (name : List ℕ) (ms : Members) (d : Json) → MembersHaveNumbers ms → next_of name ms ≡ Some d → HasNumbers d
next-numbers name no_members d h e = absurd (cc)
next-numbers name (member key j rest) d h e = go (next-numbers name rest d h.1) (bytes_eq key name) e
  where
    go : (next_of name rest ≡ Some d → HasNumbers d) → (b : Bool) → (if b then Some j else next_of name rest) ≡ Some d → HasNumbers d
    go later true is = subst HasNumbers (same_Some j d is) h.0
    go later false is = later is

said : (text : List ℕ) → IsUtf8 text → notes_of text ≡ document_notes (document text)
unfolding notes_of
said text good = rw (is_utf8-from_IsUtf8 text good) refl

pub text-is : (text : List ℕ) (d : Json) → IsUtf8 text → document text ≡ Some d → notes_of text ≡ value_notes d
text-is text d good is = said text good ∙ ap document_notes is

-- a text that is no JSON has no notes
pub no-notes : (text : List ℕ) → (IsUtf8 text → document text ≡ None) → notes_of text ≡ []
unfolding notes_of
no-notes text none =
    elim (cases_Bool (is_utf8 text)) [
      | inl good ↦ rw good (ap document_notes (none (IsUtf8-from_is_utf8 text good)))
      | inr bad ↦ rw bad refl
    ]

-- what is noted of a text that was read so
pub read-is : {A : Type 0} (text items : List ℕ) (read : Result (Value A) Error) → IfOk read (λ v. IsUtf8 text × (document text ≡ Some (value_view v)))
    → (read ≡ Err Invalid → IsUtf8 text → document text ≡ None)
    → MatchResult read (λ v. items ≡ value_notes (value_view v)) (λ fault. (fault ≡ Invalid) × (items ≡ [])) → items ≡ notes_of text
read-is text items (Ok v) ok invalid is = is ∙ sym (text-is text (value_view v) ok.0 ok.1)
read-is text items (Err e) ok invalid is = is.1 ∙ sym (no-notes text (invalid (ap Err is.0)))

-- three texts that are added one after another
pub three : (a b c d x y z : List ℕ) → b ≡ a ++ x → c ≡ b ++ y → d ≡ c ++ z → d ≡ a ++ (x ++ y ++ z)
three a b c d x y z first second third =
    third
    ∙ ap (λ (ts : List ℕ). ts ++ z) (second ∙ ap (λ (ts : List ℕ). ts ++ y) first ∙ append_assoc a x y)
    ∙ append_assoc a (x ++ y) z

-- what a list becomes where a result is Ok
pub where-ok : {T E : Type 0} (r : Result T E) (d x y : List ℕ) → d ≡ (if is_ok r then x else y) → OnOk r (d ≡ x)
where-ok (Ok u) d x y is = is
where-ok (Err e) d x y is = tt
