-- What JSON a text is.
use Rattle.std.proofs.Common.{arith, if◌then◌else◌, Bool, true, false, ◌≡◌, ℕ, List, Some, None, refl, inl, inr}
use Rattle.std.proofs.lemmas.Bool.{cases_Bool}
use Rattle.std.proofs.lemmas.Str.{IsUtf8-from_is_utf8, is_utf8-from_IsUtf8}
use Rattle.std.specs.Prelude.{IsUtf8}
use Rattle.std.specs.Str.{is_utf8}
use Rattle.serde_json.specs.Data.{Data}
use Rattle.serde_json.specs.Read.{read}
use Rattle.tsb_plan_text.specs.PlanText.{data_of}

pub some_data : (text : List ℕ) (d : Data) → IsUtf8 text → read text ≡ Some d → data_of text ≡ Some d
unfolding data_of
some_data text d u e = rw (is_utf8-from_IsUtf8 text u) e

pub no_data : (text : List ℕ) → (IsUtf8 text → read text ≡ None) → data_of text ≡ None
unfolding data_of
no_data text h =
    elim (cases_Bool (is_utf8 text)) [
      | inl good ↦ rw good (h (IsUtf8-from_is_utf8 text good))
      | inr bad ↦ rw bad refl
    ]

pub read_of_data : (text : List ℕ) (d : Data) → data_of text ≡ Some d → read text ≡ Some d
unfolding data_of
read_of_data text d e = good (is_utf8 text) e
  where
    good : (b : Bool) → (if b then read text else None) ≡ Some d → read text ≡ Some d
    good true e = e
    good false e = absurd (grind (arith, e))
