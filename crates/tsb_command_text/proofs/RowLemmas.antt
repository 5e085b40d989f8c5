-- Rows: what they begin with, and rows of logs with a tick before them.
use Rattle.std.proofs.Common.{◌≡◌, ◌∙◌, ℕ, ◌+◌, ◌==◌, ◌&&◌, nat_lt, Bool, true, false, List, [], ◌∷◌, ◌++◌, length, take, drop, get_or, refl, sym, ap, subst, arith, inl, inr, ◌⊎◌, Option, Some, None, if◌then◌else◌, take_all, length-append, eq-eqb, true≢false}
use Rattle.std.proofs.Math.Seq.{take-append_seam, get_or-append_seam, drop-append-add}
use Rattle.std.proofs.lemmas.Bool.{lt-ltb, ne_eqb}
use Rattle.std.proofs.lemmas.Bool.Decides.{eqb_tells}
use Rattle.tsb_lines.specs.Lines.{onto_first}
use Rattle.tsb_log_text.proofs.ListLemmas.{no-digit-lists, no-inputs}
use Rattle.tsb_log_text.specs.tsb_types.declared.row.Row.{Row}
use Rattle.tsb_types.specs.declared.limits.TheConstants.{VEHICLE_DETECTORS}
use Rattle.tsb_log_text.specs.Forms.{inputs_in, row_or_other}
use Rattle.tsb_log_text.specs.RowLists.{after_vehicles, lists_of, own_list, parts, row_of_lists}
use Rattle.tsb_log_text.specs.Rows.{inputs_of, list_in_digits, onto_digits, field, has_space, row_of, row_with, tick_of}

abbrev pub IsNone : {A : Type 0} → Option A → Type 0
IsNone None = Unit {0}
IsNone (Some a) = ⊥

if-none : (b : Bool) → (let none : Option Row = None in (if b then none else none) ≡ none)
if-none true = refl
if-none false = refl

no-digit : (d : ℕ) (rest : Option ℕ) → (d == 48) ≡ false → (d == 49) ≡ false → onto_digits d rest ≡ None
no-digit d None z o = refl
no-digit d (Some m) z o = rw (z, o) refl

-- a line that begins with neither digit is no row
pub no-row : (d : ℕ) (bs : List ℕ) → (d == 48) ≡ false → (d == 49) ≡ false → inputs_of (d ∷ bs) ≡ None
unfolding inputs_of
no-row d bs z o =
    let none : list_in_digits (field 0 16 (d ∷ bs)) ≡ None = no-digit d (list_in_digits (take 15 bs)) z o in
    rw none (if-none (length (d ∷ bs) == 30 && has_space 16 (d ∷ bs) && has_space 25 (d ∷ bs)))

-- so a row begins with one
pub first-digit : (d : ℕ) (bs : List ℕ) (r : Row) → inputs_of (d ∷ bs) ≡ Some r → (d ≡ 48) ⊎ (d ≡ 49)
first-digit d bs r e = elim (eqb_tells d 48) [
  | inl z ↦ inl z.1
  | inr off ↦ elim (eqb_tells d 49) [
    | inl z ↦ inr z.1
    | inr other ↦ absurd (subst IsNone (sym (no-row d bs off.0 other.0) ∙ e) tt)
  ]
]

other-length : (line : List ℕ) → (length line == 30) ≡ false → inputs_of line ≡ None
unfolding inputs_of
other-length line off = rw off refl

-- ## Rows by lists

-- the words of a row that begin with none of the letters of its kinds
abbrev IsNoKind : List (List ℕ) → Type 0
IsNoKind [] = ⊥
IsNoKind ([] ∷ ws) = Unit {0}
IsNoKind ((c ∷ w) ∷ ws) = ((c == 86) ≡ false) × ((c == 80) ≡ false) × ((c == 69) ≡ false)

no-kinds : (line : List ℕ) → IsNoKind (parts 32 line) → lists_of line ≡ None
unfolding lists_of
no-kinds line is = at (parts 32 line) is
  where
    at : (ws : List (List ℕ)) → IsNoKind ws → after_vehicles (own_list 86 VEHICLE_DETECTORS ws) ≡ None
    at [] n = absurd n
    at ([] ∷ ws) n = refl
    at ((c ∷ w) ∷ ws) n = rw (n.0, n.1, n.2) refl

-- a line that begins with none of the letters spells no lists
no-letter : (d : ℕ) (bs : List ℕ) → (d == 86) ≡ false → (d == 80) ≡ false → (d == 69) ≡ false → lists_of (d ∷ bs) ≡ None
no-letter d bs v p e = no-kinds (d ∷ bs) (at (d == 32) (parts 32 bs))
  where
    at : (b : Bool) (ws : List (List ℕ)) → IsNoKind (if b then [] ∷ ws else onto_first d ws)
    at true ws = tt
    at false [] = (v, p, e)
    at false (w ∷ ws) = (v, p, e)

-- the bytes with which rows begin: digits 0 and 1, or the letters V, P and E of lists
abbrev pub BeginsRows : ℕ → Type 0
BeginsRows d = ((d ≡ 48) ⊎ (d ≡ 49)) ⊎ ((d ≡ 86) ⊎ ((d ≡ 80) ⊎ (d ≡ 69)))

first-letter : (d : ℕ) (bs : List ℕ) (r : Row) → lists_of (d ∷ bs) ≡ Some r → (d ≡ 86) ⊎ ((d ≡ 80) ⊎ (d ≡ 69))
first-letter d bs r e = elim (eqb_tells d 86) [
  | inl z ↦ inl z.1
  | inr no-v ↦ elim (eqb_tells d 80) [
    | inl z ↦ inr (inl z.1)
    | inr no-p ↦ elim (eqb_tells d 69) [
      | inl z ↦ inr (inr z.1)
      | inr no-e ↦ absurd (subst IsNone (sym (no-letter d bs no-v.0 no-p.0 no-e.0) ∙ e) tt)
    ]
  ]
]

-- a row in either form begins with one of them
pub first-byte : (d : ℕ) (bs : List ℕ) (r : Row) → inputs_in (d ∷ bs) ≡ Some r → BeginsRows d
first-byte d bs r e = at (inputs_of (d ∷ bs)) refl
  where
    at : (o : Option Row) → inputs_of (d ∷ bs) ≡ o → BeginsRows d
    at (Some q) is = inl (first-digit d bs q is)
    at None is = inr (first-letter d bs r (sym (ap (λ (o : Option Row). row_or_other o (lists_of (d ∷ bs))) is) ∙ e))

-- a line that begins with none of them is no row
pub no-row-begins : (d : ℕ) (bs : List ℕ) → (d == 48) ≡ false → (d == 49) ≡ false → (d == 86) ≡ false → (d == 80) ≡ false → (d == 69) ≡ false
    → inputs_in (d ∷ bs) ≡ None
no-row-begins d bs zero one v p e = rw (no-row d bs zero one, no-letter d bs v p e) refl

-- a row in digits or by lists is the row of its line
pub by-digits : (line : List ℕ) (r : Row) → inputs_of line ≡ Some r → inputs_in line ≡ Some r
by-digits line r e = ap (λ (o : Option Row). row_or_other o (lists_of line)) e

no-bytes : inputs_of [] ≡ None
unfolding inputs_of
no-bytes = refl

pub by-lists : (line : List ℕ) (r : Row) → lists_of line ≡ Some r → inputs_in line ≡ Some r
by-lists line r e = at line (inputs_of line) refl e
  where
    at : (line : List ℕ) (o : Option Row) → inputs_of line ≡ o → lists_of line ≡ Some r → inputs_in line ≡ Some r
    at line None is e = ap (λ (o : Option Row). row_or_other o (lists_of line)) is ∙ e
    at [] (Some q) is e = absurd (subst IsNone (sym no-bytes ∙ is) tt)
    at (d ∷ bs) (Some q) is e = absurd (subst IsNone (sym (no-digit-lists d bs (first-digit d bs q is)) ∙ e) tt)

-- ## Rows of logs

-- a line after a tick of 7 digits: these come first, then the space, then the line
tick-front : (digits line : List ℕ) → length digits ≡ 7 → take 7 (digits ++ 32 ∷ line) ≡ digits
tick-front digits line seven = subst (λ (n : ℕ). take n (digits ++ 32 ∷ line) ≡ digits) seven (take-append_seam digits (32 ∷ line))

tick-space : (digits line : List ℕ) → length digits ≡ 7 → get_or (digits ++ 32 ∷ line) 7 0 ≡ 32
tick-space digits line seven = subst (λ (n : ℕ). get_or (digits ++ 32 ∷ line) n 0 ≡ 32) seven (get_or-append_seam digits 32 line 0)

tick-behind : (digits line : List ℕ) → length digits ≡ 7 → drop 8 (digits ++ 32 ∷ line) ≡ line
tick-behind digits line seven = subst (λ (n : ℕ). drop (n + 1) (digits ++ 32 ∷ line) ≡ line) seven (drop-append-add digits (32 ∷ line) 1)

whole-row : (digits line : List ℕ) → length digits ≡ 7 → length line ≡ 30
    → row_of (digits ++ 32 ∷ line) ≡ row_with (tick_of digits) (inputs_of line)
unfolding row_of
whole-row digits line seven thirty =
    let long : (length (digits ++ 32 ∷ line) == 38) ≡ true = eq-eqb (length (digits ++ 32 ∷ line)) 38 (length-append digits (32 ∷ line) ∙ omega (arith, seven, thirty)) in
    let all : take 30 line ≡ line = take_all 30 line (omega (arith, thirty)) in
    rw (long, tick-space digits line seven, tick-front digits line seven, tick-behind digits line seven, all) refl

other-row : (digits line : List ℕ) → length digits ≡ 7 → (length line == 30) ≡ false → row_of (digits ++ 32 ∷ line) ≡ None
unfolding row_of
other-row digits line seven off = elim (eqb_tells (length (digits ++ 32 ∷ line)) 38) [
  | inl z ↦
      let all : length (digits ++ 32 ∷ line) ≡ length digits + length (32 ∷ line) = length-append digits (32 ∷ line) in
      let is : length (digits ++ 32 ∷ line) ≡ 38 = z.1 in
      absurd (true≢false (sym (eq-eqb (length line) 30 (omega (arith, all, is, seven))) ∙ off))
  | inr other ↦ rw other.0 refl
]

pub log-row : (digits line : List ℕ) → length digits ≡ 7 → row_of (digits ++ 32 ∷ line) ≡ row_with (tick_of digits) (inputs_of line)
log-row digits line seven = elim (eqb_tells (length line) 30) [
  | inl z ↦ whole-row digits line seven z.1
  | inr off ↦ other-row digits line seven off.0 ∙ sym (ap (row_with (tick_of digits)) (other-length line off.0) ∙ no-inputs (tick_of digits))
]

-- and where the row is by lists
pub log-lists : (digits line : List ℕ) → length digits ≡ 7 → row_of_lists (digits ++ 32 ∷ line) ≡ row_with (tick_of digits) (lists_of line)
unfolding row_of_lists
log-lists digits line seven =
    let all : length (digits ++ 32 ∷ line) ≡ length digits + length (32 ∷ line) = length-append digits (32 ∷ line) in
    let other : (length (digits ++ 32 ∷ line) == 7) ≡ false = ne_eqb (length (digits ++ 32 ∷ line)) 7 (λ e. omega (arith, all, seven, e)) in
    let long : nat_lt 7 (length (digits ++ 32 ∷ line)) ≡ true = lt-ltb 7 (length (digits ++ 32 ∷ line)) (omega (arith, all, seven)) in
    rw (other, long, tick-space digits line seven, tick-front digits line seven, tick-behind digits line seven) refl
