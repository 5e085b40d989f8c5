-- Decimal texts of indices.
use Rattle.std.proofs.Common.{◌≡◌, ◌≢◌, ℕ, zero, suc, ◌+◌, ◌^◌, ◌<◌, ◌≤◌, Bool, List, [], ◌∷◌, length, get_or, Some, None, find, Result, Ok, Err, MatchOption, bytes_eq, arith, sym, ◌∙◌, ap, refl, Decides, inl, inr}
use Rattle.std.proofs.lemmas.Bool.{cases_Bool}
use Rattle.std.proofs.lemmas.Fmt.{first_decimal, decimal_nonempty, digits_decimal, decimal_injective, decimal_digit, decimal-digits_value, parse-decimal}
use Rattle.std.proofs.lemmas.Slice.Eq.{bytes_eq-Decides}
use Rattle.std.proofs.lemmas.Str.Parse.{IsNumeralModel, numerals_by_value, tells_digits, parse_plain}
use Rattle.std.specs.Fmt.{decimal}
use Rattle.std.specs.Result.{result_ok}
use Rattle.std.specs.Str.Parse.{AllDigits, digits_value, ParsesUnsigned}
use Rattle.tsb_objects.specs.tsb_types.Lists.{run_from}
use Rattle.tsb_plan_text.specs.PlanText.{index_named}

numerals : IsNumeralModel (AllDigits 10) (digits_value 10)
numerals = numerals_by_value _ tells_digits

digits_are_digits : (ds : List ℕ) → AllDigits 10 ds → 0 < length ds → get_or ds 0 0 ≤ 57
digits_are_digits [] all some = absurd (omega arith)
digits_are_digits (d ∷ ds) all some = (tells_digits.parts d ds all).0.1

-- a number over 0 begins with a digit over 0
pub begins_with_digit : (text : List ℕ) (i : ℕ) → 1 ≤ i → i < 2 ^ 32 → decimal i ≡ text → (49 ≤ get_or text 0 0) × (get_or text 0 0 ≤ 57)
begins_with_digit text i over fits e =
    let first : 48 < get_or (decimal i) 0 0 = first_decimal i over (omega arith) in
    let last : get_or (decimal i) 0 0 ≤ 57 = digits_are_digits (decimal i) (digits_decimal numerals i (omega arith)) (decimal_nonempty i (omega arith)) in
    let same : get_or (decimal i) 0 0 ≡ get_or text 0 0 = ap (λ (l : List ℕ). get_or l 0 0) e in
    (omega (arith, first, same), omega (arith, last, same))

-- what `parse` reads of a text that begins with no zero and no plus
pub parsed : {E : Type 0} (text : List ℕ) (r : Result ℕ E) → ParsesUnsigned 32 10 text r → 49 ≤ get_or text 0 0 →
    MatchOption (result_ok r) ((i : ℕ) → 1 ≤ i → i < 2 ^ 32 → decimal i ≢ text) (λ i. (1 ≤ i) × (i < 2 ^ 32) × (decimal i ≡ text))
parsed {E = E} text (Err e) h first = λ i over fits same. absurd (grind (arith, parse-decimal 32 i text (Err e) fits (omega arith) (sym same) h))
parsed {E = E} text (Ok n) h first =
    let plain = parse_plain numerals {E = E} 32 text (Ok n) h (omega (arith, first)) in
    let same : decimal n ≡ text =
    ap decimal plain.1 ∙ decimal-digits_value numerals text plain.0.0 plain.0.1 (λ e. absurd (omega (arith, first, e))) (omega (arith, plain.0.2)) in
    (over n same first, omega (arith, plain.0.2, plain.1), same)
  where
    over : (n : ℕ) → decimal n ≡ text → 49 ≤ get_or text 0 0 → 1 ≤ n
    over zero same first =
        let zero_first : get_or text 0 0 ≡ 48 = ap (λ (l : List ℕ). get_or l 0 0) (sym same ∙ decimal_digit 0 (omega arith)) in
        absurd (omega (arith, first, zero_first))
    over (suc n) same first = omega arith

-- the test by which an index is found
is_it : List ℕ → ℕ → Bool
is_it text i = bytes_eq (decimal i) text

is_it-Decides : (text : List ℕ) (i : ℕ) → Decides (is_it text i) (decimal i ≡ text)
unfolding is_it
is_it-Decides text i = bytes_eq-Decides (decimal i) text

found_from : (text : List ℕ) (i a n : ℕ) → decimal i ≡ text → a ≤ i → i < a + n → i < 2 ^ 32 → find (is_it text) (run_from a n) ≡ Some i
unfolding run_from
found_from text i a zero e low high fits = absurd (omega arith)
found_from text i a (suc n) e low high fits =
    elim (cases_Bool (is_it text a)) [
      | inl passes ↦
          let same : a ≡ i = decimal_injective a i (omega arith) (omega arith) ((is_it-Decides text a).0 passes ∙ sym e) in
          rw passes (ap Some same)
      | inr fails ↦
          let other : a ≢ i = λ same. grind (arith, fails, (is_it-Decides text a).1 (ap decimal same ∙ e)) in
          rw fails (found_from text i (a + 1) n e (omega (arith, other)) (omega arith) fits)
    ]

none_from : (text : List ℕ) (a n : ℕ) → ((i : ℕ) → a ≤ i → i < a + n → decimal i ≢ text) → find (is_it text) (run_from a n) ≡ None
unfolding run_from
none_from text a zero none = refl
none_from text a (suc n) none =
    elim (cases_Bool (is_it text a)) [
      | inl passes ↦ absurd (none a (omega arith) (omega arith) ((is_it-Decides text a).0 passes))
      | inr fails ↦ rw fails (none_from text (a + 1) n (λ i low high. none i (omega arith) (omega arith)))
    ]

pub index_found : (n : ℕ) (text : List ℕ) (i : ℕ) → 1 ≤ i → decimal i ≡ text → i ≤ n → i < 2 ^ 32 → index_named n text ≡ Some i
unfolding index_named is_it
index_found n text i over e within fits = found_from text i 1 n e over (omega arith) fits

-- an index over the last is none of them
pub index_over : (n : ℕ) (text : List ℕ) (i : ℕ) → decimal i ≡ text → n < i → i < 2 ^ 32 → index_named n text ≡ None
unfolding index_named is_it
index_over n text i e over fits =
    none_from text 1 n (λ k low high same. let one : k ≡ i = decimal_injective k i (omega arith) (omega arith) (same ∙ sym e) in omega (arith, one))

pub index_none : (n : ℕ) (text : List ℕ) → n < 2 ^ 32 → ((i : ℕ) → 1 ≤ i → i < 2 ^ 32 → decimal i ≢ text) → index_named n text ≡ None
unfolding index_named is_it
index_none n text fits none = none_from text 1 n (λ i low high. none i low (omega arith))

is_from : (text : List ℕ) (i a n : ℕ) → find (is_it text) (run_from a n) ≡ Some i → (a ≤ i) × (i < a + n) × (decimal i ≡ text)
unfolding run_from
is_from text i a zero e = absurd (grind (arith, e))
is_from text i a (suc n) e =
    elim (cases_Bool (is_it text a)) [
      | inl passes ↦
          let same : a ≡ i = grind (arith, passes, e) in
          (omega (arith, same), omega (arith, same), ap decimal (sym same) ∙ (is_it-Decides text a).0 passes)
      | inr fails ↦
          let later = is_from text i (a + 1) n (grind (arith, fails, e)) in
          (omega (arith, later.0), omega (arith, later.1), later.2)
    ]

-- the index that was found
pub index_named_is : (n : ℕ) (text : List ℕ) (i : ℕ) → index_named n text ≡ Some i → (1 ≤ i) × (i ≤ n) × (decimal i ≡ text)
unfolding index_named is_it
index_named_is n text i e =
    let found = is_from text i 1 n e in
    (found.0, omega (arith, found.1), found.2)
