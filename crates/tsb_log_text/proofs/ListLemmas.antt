-- Lists of numbers in a row of lists, and their parts.
use Rattle.std.proofs.Common.{◌≡◌, ◌∙◌, ◌⊎◌, ℕ, ◌+◌, ◌-◌, ◌^◌, ◌<◌, ◌≤◌, Bool, true, false, zero, suc, List, [], ◌∷◌, ◌++◌, append_assoc, length, length-drop, map, get_or, take_all, ◌&&◌, ◌==◌, take, drop, refl, sym, ap, subst, arith, eqb, inl, inr, Option, Some, None, codes, decimal, if◌then◌else◌}
use Rattle.std.proofs.lemmas.Bool.{and_parts}
use Rattle.std.proofs.lemmas.Bool.Decides.{eqb_tells}
use Rattle.tsb_lines.specs.Lines.{onto_first}
use Rattle.tsb_types.specs.Sets.{names}
use Rattle.tsb_types.proofs.SetLemmas.{same_names}
use Rattle.tsb_log_text.specs.Forms.{form_of, row_in}
use Rattle.tsb_log_text.specs.Laws.{AreTwoForms, HaveOneForm, heeded}
use Rattle.tsb_log_text.specs.ListText.{item_text, run_end}
use Rattle.tsb_log_text.specs.RowLists.{ends_of_item, lists_of, parts, row_of_lists}
use Rattle.tsb_log_text.specs.Rows.{field, has_space, inputs_of, inputs_with, list_in_digits, onto_digits, row_of, row_with, tick_of}
use Rattle.tsb_types.specs.declared.row.Row.{Row}
use Rattle.tsb_log_text.specs.declared.form.RowForm.{RowForm}
use Rattle.tsb_log_text.specs.declared.form.RowForm.TheVariants.{Digits, Lists}
use Rattle.tsb_log_text.specs.declared.log.LogRow.{LogRow}
use Rattle.tsb_log_text.proofs.LawLemmas.{the-rows}
use Rattle.tsb_lines.specs.Lines.{lines_of}

-- a list is known by the numbers that it names
pub word-of : (w a b : ℕ) → a < 2 ^ w → b < 2 ^ w → ((n : ℕ) → names a n ≡ names b n) → a ≡ b
word-of w a b la lb h = same_names w a b la lb (λ p one most. h p)

-- without the byte b there is one part
pub parts-none : (b : ℕ) (bs : List ℕ) → ((k : ℕ) → k < length bs → eqb (get_or bs k 0) b ≡ false) → parts b bs ≡ bs ∷ []
parts-none b [] h = refl
parts-none b (c ∷ cs) h = rw (h 0 (omega arith)) (ap (onto_first c) (parts-none b cs (λ k lt. h (suc k) (omega (arith, lt)))))

-- the first part ends before the first byte b
pub parts-cut : (b : ℕ) (bs : List ℕ) (n : ℕ) → n < length bs → ((k : ℕ) → k < n → eqb (get_or bs k 0) b ≡ false) → eqb (get_or bs n 0) b ≡ true
    → parts b bs ≡ take n bs ∷ parts b (drop (suc n) bs)
parts-cut b [] n lt h e = absurd (omega (arith, lt))
parts-cut b (c ∷ cs) zero lt h e = rw e refl
parts-cut b (c ∷ cs) (suc n) lt h e =
    rw (h 0 (omega arith)) (ap (onto_first c) (parts-cut b cs n (omega (arith, lt)) (λ k less. h (suc k) (omega (arith, less))) e))

pub parts-cut-at : (b : ℕ) (bs : List ℕ) (n : ℕ) → n < length bs → ((k : ℕ) → k < n → eqb (get_or bs k 0) b ≡ false) → eqb (get_or bs n 0) b ≡ true
    → parts b bs ≡ take n bs ∷ parts b (drop (n + 1) bs)
parts-cut-at b bs n lt h e =
    let next : suc n ≡ n + 1 = omega arith in parts-cut b bs n lt h e ∙ ap (λ (k : ℕ). take n bs ∷ parts b (drop k bs)) next

-- ## Digits are no lists

-- the first word begins with this byte
record Begins (c : ℕ) (ws : List (List ℕ)) : Type 0 where
  word : List ℕ
  rest : List (List ℕ)
  is : ws ≡ (c ∷ word) ∷ rest

onto-front : (c : ℕ) (ls : List (List ℕ)) → Begins c (onto_first c ls)
onto-front c [] = record { word = []; rest = []; is = refl }
onto-front c (l ∷ ls) = record { word = l; rest = ls; is = refl }

begins : (c : ℕ) (cs : List ℕ) → eqb c 32 ≡ false → Begins c (parts 32 (c ∷ cs))
begins c cs e = rw e (onto-front c (parts 32 cs))

-- bytes that begin with none of the letters and no space spell no lists
no-lists : (c : ℕ) (cs : List ℕ) → eqb c 32 ≡ false → eqb c 86 ≡ false → eqb c 80 ≡ false → eqb c 69 ≡ false → lists_of (c ∷ cs) ≡ None
unfolding lists_of
no-lists c cs space v p e = let b = begins c cs space in rw (b.is, v, p, e) refl

pub no-digit-lists : (c : ℕ) (cs : List ℕ) → (c ≡ 48) ⊎ (c ≡ 49) → lists_of (c ∷ cs) ≡ None
no-digit-lists c cs (inl e) = no-lists c cs (rw e refl) (rw e refl) (rw e refl) (rw e refl)
no-digit-lists c cs (inr e) = no-lists c cs (rw e refl) (rw e refl) (rw e refl) (rw e refl)

pub no-inputs : (t : Option ℕ) → row_with t None ≡ None
no-inputs None = refl
no-inputs (Some t) = refl

-- ## One form

one-form : (form : RowForm) (lines : List (List ℕ)) (rows : List LogRow) → map (row_in form) lines ≡ map Some rows
    → (map row_of lines ≡ map Some rows) ⊎ (map row_of_lists lines ≡ map Some rows)
one-form Digits lines rows h = inl h
one-form Lists lines rows h = inr h

pub have-one-form : HaveOneForm
have-one-form text rows h = one-form (form_of (lines_of text)) (heeded (lines_of text)) rows ((the-rows text rows).0 h).1

-- ## Items that are written

pub item-run : (first last : ℕ) → first < last → item_text (first, last) ≡ decimal first ++ (codes "-" ++ decimal last)
item-run first last lt = elim (eqb_tells first last) [ inl z ↦ absurd (let e : first ≡ last = z.1 in omega (arith, e, lt)) | inr z ↦ rw z.0 (append_assoc (decimal first) (codes "-") (decimal last)) ]

pub item-one : (first last : ℕ) → first ≡ last → item_text (first, last) ≡ decimal first
item-one first last e = elim (eqb_tells first last) [ inl z ↦ rw z.0 refl | inr z ↦ absurd (z.1 e) ]

-- ## The end of a run

pub run-more : (n left : ℕ) (on : ℕ → Bool) → on (n + 1) ≡ true → run_end n (suc left) on ≡ run_end (n + 1) left on
run-more n left on e = rw e refl

-- what is behind some bytes, as a slice has it
pub slice-behind : (n : ℕ) (bs : List ℕ) → take (length bs - n) (drop n bs) ≡ drop n bs
slice-behind n bs = let all : length (drop n bs) ≡ length bs - n = length-drop n bs in take_all (length bs - n) (drop n bs) (omega (arith, all))

-- ## Items that are read

many-onto : (low high : List ℕ) (c : ℕ) (ls : List (List ℕ)) → ends_of_item (low ∷ high ∷ onto_first c ls) ≡ None
many-onto low high c [] = refl
many-onto low high c (l ∷ ls) = refl

-- an item of three parts or more has no ends
pub ends-many : (low high : List ℕ) (b : ℕ) (bs : List ℕ) → ends_of_item (low ∷ high ∷ parts b bs) ≡ None
ends-many low high b [] = refl
ends-many low high b (c ∷ cs) = elim (eqb_tells c b) [ inl z ↦ rw z.0 refl | inr z ↦ rw z.0 (many-onto low high c (parts b cs)) ]

-- ## No row has both forms

abbrev Nothing : {A : Type 0} → Option A → Type 0
Nothing None = Unit {0}
Nothing (Some x) = ⊥

none-some : {A : Type 0} (x : A) (o : Option A) → o ≡ None → o ≡ Some x → ⊥
none-some x o none some = subst Nothing (sym none ∙ some) tt

if-some : {A : Type 0} (b : Bool) (o : Option A) (x : A) → (if b then o else None) ≡ Some x → (b ≡ true) × (o ≡ Some x)
if-some true o x e = (refl, e)
if-some false o x e = absurd (subst Nothing e tt)

with-inputs : (t : Option ℕ) (r : Option Row) (x : LogRow) → row_with t r ≡ Some x → (row : Row) × (r ≡ Some row)
with-inputs None None x e = absurd (subst Nothing e tt)
with-inputs None (Some r) x e = absurd (subst Nothing e tt)
with-inputs (Some t) None x e = absurd (subst Nothing e tt)
with-inputs (Some t) (Some r) x e = (r, refl)

with-vehicles : (v p n : Option ℕ) (x : Row) → inputs_with v p n ≡ Some x → (list : ℕ) × (v ≡ Some list)
with-vehicles None p n x e = absurd (subst Nothing e tt)
with-vehicles (Some v) p n x e = (v, refl)

digit-of : (c : ℕ) (o : Option ℕ) (v : ℕ) → onto_digits c o ≡ Some v → (c ≡ 48) ⊎ (c ≡ 49)
digit-of c None v e = absurd (subst Nothing e tt)
digit-of c (Some m) v e = elim (eqb_tells c 48) [
  | inl z ↦ inl z.1
  | inr off ↦ elim (eqb_tells c 49) [ inl z ↦ inr z.1 | inr other ↦ absurd (subst Nothing (rw (off.0, other.0) at e) tt) ]
]

digits-no-lists : (d : List ℕ) (v : ℕ) → list_in_digits (field 0 16 (take 30 d)) ≡ Some v → 30 ≤ length d → lists_of d ≡ None
digits-no-lists [] v e long = absurd (omega (arith, long))
digits-no-lists (c ∷ cs) v e long = no-digit-lists c cs (digit-of c (list_in_digits (take 15 (take 29 cs))) v e)

lists-none : (line : List ℕ) → length line ≡ 38 → has_space 7 line ≡ true → lists_of (drop 8 line) ≡ None → row_of_lists line ≡ None
unfolding row_of_lists
lists-none line long space none = rw (long, space, none) (no-inputs (tick_of (field 0 7 line)))

pub two-forms : AreTwoForms
unfolding row_of inputs_of
two-forms line one other h k =
    let row = if-some (length line == 38 && has_space 7 line) (row_with (tick_of (field 0 7 line)) (inputs_of (field 8 30 line))) one h in
    let both = and_parts (length line == 38) (has_space 7 line) row.0 in
    let long : length line ≡ 38 = elim (eqb_tells (length line) 38) [ inl z ↦ z.1 | inr z ↦ absurd (cc) ] in
    let inputs = with-inputs (tick_of (field 0 7 line)) (inputs_of (field 8 30 line)) one row.1 in
    let digits : List ℕ = field 8 30 line in
    let first = if-some (length digits == 30 && has_space 16 digits && has_space 25 digits)
    (inputs_with (list_in_digits (field 0 16 digits)) (list_in_digits (field 17 8 digits)) (list_in_digits (field 26 4 digits))) inputs.0 inputs.1 in
    let v = with-vehicles (list_in_digits (field 0 16 digits)) (list_in_digits (field 17 8 digits)) (list_in_digits (field 26 4 digits)) inputs.0 first.1 in
    let rest : length (drop 8 line) ≡ length line - 8 = length-drop 8 line in
    none-some other (row_of_lists line) (lists-none line long both.1 (digits-no-lists (drop 8 line) v.0 v.1 (omega (arith, rest, long)))) k
