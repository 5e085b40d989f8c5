-- The text of a log is read as its rows.
use Rattle.std.proofs.Common.{◌≡◌, ℕ, ◌+◌, ◌*◌, ◌%◌, ◌^◌, ◌<◌, ◌≤◌, Bool, true, false, eqb, leb, zero, suc, List, [], ◌∷◌, ◌++◌, length, map, refl, sym, ap, ◌∙◌, arith, inl, inr, ◌⊎◌, Option, Some, None, Ok, length-append, append_assoc, if◌then◌else◌}
use Rattle.std.proofs.lemmas.Bool.{le-leb}
use Rattle.std.proofs.lemmas.Bool.Decides.{eqb_tells}
use Rattle.tsb_lines.specs.Lines.{lines_of, without_return, is_skipped, HasNoFeed}
use Rattle.tsb_lines.specs.Digits.{digit, seven_digits}
use Rattle.tsb_lines.specs.Words.{number_of}
use Rattle.tsb_lines.proofs.LineLemmas.{lines-joined}
use Rattle.tsb_lines.proofs.DigitLemmas.{seven-digits-read}
use Rattle.tsb_types.specs.Sets.{has_number, number_of_bits}
use Rattle.tsb_types.specs.declared.detector_set.DetectorSet.{DetectorSet}
use Rattle.tsb_types.specs.declared.number_set.NumberSet.{NumberSet}
use Rattle.tsb_types.proofs.SetLemmas.{list_of-names_within}
use Rattle.tsb_log_text.specs.Rows.{row_of, row_with, inputs_of, inputs_with, tick_of, in_ticks, list_in_digits, onto_digits}
use Rattle.tsb_log_text.specs.Logs.{log_of, Rises}
use Rattle.tsb_log_text.specs.Laws.{heeded}
use Rattle.tsb_log_text.specs.Forms.{form_of, row_in}
use Rattle.tsb_log_text.specs.RowLists.{row_of_lists}
use Rattle.tsb_log_text.specs.declared.form.RowForm.{RowForm}
use Rattle.tsb_log_text.specs.declared.form.RowForm.TheVariants.{Digits}
use Rattle.tsb_log_text.specs.declared.log.LogRow.{LogRow}
use Rattle.tsb_log_text.proofs.ListLemmas.{no-digit-lists, no-inputs}
use Rattle.tsb_log_text.proofs.LawLemmas.{the-rows, heed-row}
use Rattle.tsb_log_text.specs.LogText.{AreRows, IsRow, first_detectors, mark, marks, set_marks, row_line, log_text}
use Rattle.tsb_lines.proofs.LineLemmas.{feedless-both}

-- ## Digits

pub tick-read : (t : ℕ) → 1 ≤ t → t ≤ 6000000 → tick_of (seven_digits t) ≡ Some t
tick-read t one most =
    let number : number_of (seven_digits t) ≡ Some t = seven-digits-read t (omega (arith, most)) in
    let low : leb 1 t ≡ true = le-leb 1 t one in
    let high : leb t 6000000 ≡ true = le-leb t 6000000 most in
    ap in_ticks number ∙ rw (low, high) refl

-- ## Marks

mark-read : (b : Bool) (m : ℕ) → onto_digits (mark b) (Some m) ≡ Some ((if b then 1 else 0) + 2 * m)
mark-read true m = refl
mark-read false m = let e : 2 * m ≡ 0 + 2 * m = omega arith in ap (λ (k : ℕ). Some k) e

marks-read : (n : ℕ) (on : ℕ → Bool) → list_in_digits (marks n on) ≡ Some (number_of_bits n on)
unfolding number_of_bits
marks-read zero on = refl
marks-read (suc n) on = ap (onto_digits (mark (on 0))) (marks-read n (λ k. on (suc k))) ∙ mark-read (on 0) (number_of_bits n (λ k. on (suc k)))

set-read : (n : ℕ) (set : NumberSet) → set.word < 2 ^ n → list_in_digits (set_marks n set) ≡ Some set.word
set-read n set fits = marks-read n (λ k. has_number set (suc k)) ∙ ap (λ (k : ℕ). Some k) (list_of-names_within n set.word fits)

-- detectors up to 16 are all in their marks
detectors-read : (set : DetectorSet) → set.word < 2 ^ 16 → list_in_digits (set_marks 16 (first_detectors set)) ≡ Some set.word
detectors-read set fits =
    let small : set.word % 65536 ≡ set.word = omega (arith, fits) in
    let first : set.word % 65536 < 2 ^ 16 = omega arith in
    set-read 16 (first_detectors set) first ∙ ap (λ (k : ℕ). Some k) small

-- ## The line of a row

line-parts : (r : LogRow) → row_of (row_line r)
    ≡ row_with (tick_of (seven_digits r.tick)) (inputs_with (list_in_digits (set_marks 16 (first_detectors r.row.vehicles))) (list_in_digits (set_marks 8 r.row.pedestrians)) (list_in_digits (set_marks 4 r.row.preempts)))
unfolding row_of inputs_of row_line
line-parts r = refl

line-read : (r : LogRow) → IsRow r → row_of (row_line r) ≡ Some r
line-read r is =
    let t : tick_of (seven_digits r.tick) ≡ Some r.tick = tick-read r.tick is.from_one is.within in
    let v : list_in_digits (set_marks 16 (first_detectors r.row.vehicles)) ≡ Some r.row.vehicles.word = detectors-read r.row.vehicles is.fit.vehicles in
    let p : list_in_digits (set_marks 8 r.row.pedestrians) ≡ Some r.row.pedestrians.word = set-read 8 r.row.pedestrians is.fit.pedestrians in
    let n : list_in_digits (set_marks 4 r.row.preempts) ≡ Some r.row.preempts.word = set-read 4 r.row.preempts is.fit.preempts in
    line-parts r
    ∙ ap (λ (o : Option ℕ). row_with o (inputs_with (list_in_digits (set_marks 16 (first_detectors r.row.vehicles))) (list_in_digits (set_marks 8 r.row.pedestrians)) (list_in_digits (set_marks 4 r.row.preempts)))) t
    ∙ ap (λ (o : Option ℕ). row_with (Some r.tick) (inputs_with o (list_in_digits (set_marks 8 r.row.pedestrians)) (list_in_digits (set_marks 4 r.row.preempts)))) v
    ∙ ap (λ (o : Option ℕ). row_with (Some r.tick) (inputs_with (Some r.row.vehicles.word) o (list_in_digits (set_marks 4 r.row.preempts)))) p
    ∙ ap (λ (o : Option ℕ). row_with (Some r.tick) (inputs_with (Some r.row.vehicles.word) (Some r.row.pedestrians.word) o)) n

mark-feedless : (b : Bool) → mark b ≡ 10 → ⊥
mark-feedless true e = cc
mark-feedless false e = cc

marks-feedless : (n : ℕ) (on : ℕ → Bool) → HasNoFeed (marks n on)
marks-feedless zero on = tt
marks-feedless (suc n) on = (mark-feedless (on 0), marks-feedless n (λ k. on (suc k)))

digit-feedless : (t unit : ℕ) → digit t unit ≡ 10 → ⊥
digit-feedless t unit e = absurd (omega (arith, e))

tick-feedless : (t : ℕ) → HasNoFeed (seven_digits t)
tick-feedless t =
    (digit-feedless t 1000000, (digit-feedless t 100000, (digit-feedless t 10000, (digit-feedless t 1000, (digit-feedless t 100, (digit-feedless t 10, (digit-feedless t 1, tt)))))))

space-feedless : ◌≡◌ {A = ℕ} 32 10 → ⊥
space-feedless e = cc

line-feedless : (r : LogRow) → HasNoFeed (row_line r)
unfolding row_line
line-feedless r =
    feedless-both (seven_digits r.tick) (32 ∷ set_marks 16 (first_detectors r.row.vehicles) ++ (32 ∷ set_marks 8 r.row.pedestrians ++ (32 ∷ set_marks 4 r.row.preempts))) (tick-feedless r.tick) (
      space-feedless,
      feedless-both (set_marks 16 (first_detectors r.row.vehicles)) (32 ∷ set_marks 8 r.row.pedestrians ++ (32 ∷ set_marks 4 r.row.preempts)) (marks-feedless 16 (λ k. has_number (first_detectors r.row.vehicles) (suc k))) (
        space-feedless,
        feedless-both (set_marks 8 r.row.pedestrians) (32 ∷ set_marks 4 r.row.preempts) (marks-feedless 8 (λ k. has_number r.row.pedestrians (suc k)))
            (space-feedless, marks-feedless 4 (λ k. has_number r.row.preempts (suc k))),
      ),
    )

mark-no-return : (b : Bool) → eqb (mark b) 13 ≡ false
mark-no-return true = refl
mark-no-return false = refl

line-no-return : (r : LogRow) → without_return (row_line r) ≡ row_line r
unfolding row_line
line-no-return r = rw (mark-no-return (has_number r.row.preempts 4)) refl

-- a line that begins with a tick is not skipped
pub tick-heeded : (t : ℕ) (bs : List ℕ) → is_skipped (seven_digits t ++ bs) ≡ false
tick-heeded t bs =
    let space : eqb (digit t 1000000) 32 ≡ false = other (digit t 1000000) 32 (omega arith) in
    let hash : eqb (digit t 1000000) 35 ≡ false = other (digit t 1000000) 35 (omega arith) in
    rw (space, hash) refl
  where
    other : (a b : ℕ) → b < a → eqb a b ≡ false
    other a b lt = elim (eqb_tells a b) [ inl z ↦ absurd (let e : a ≡ b = z.1 in omega (arith, e, lt)) | inr z ↦ z.0 ]

line-heeded : (r : LogRow) → is_skipped (row_line r) ≡ false
unfolding row_line
line-heeded r =
    tick-heeded r.tick (32 ∷ set_marks 16 (first_detectors r.row.vehicles) ++ (32 ∷ set_marks 8 r.row.pedestrians ++ (32 ∷ set_marks 4 r.row.preempts)))

pub line-length : (r : LogRow) → length (row_line r) ≡ 38
unfolding row_line
line-length r = refl

-- ## The text

text-lines : (rs : List LogRow) → lines_of (log_text rs) ≡ map row_line rs ++ [] ∷ []
unfolding log_text
text-lines [] = refl
text-lines (r ∷ rs) =
    lines-joined (row_line r) (log_text rs) (line-feedless r) ∙ ap (λ (l : List ℕ). l ∷ lines_of (log_text rs)) (line-no-return r)
    ∙ ap (λ (ls : List (List ℕ)). row_line r ∷ ls) (text-lines rs)

rows-read : (rs : List LogRow) → AreRows rs → map row_of (heeded (map row_line rs ++ [] ∷ [])) ≡ map Some rs
rows-read [] is = refl
rows-read (r ∷ rs) is =
    ap (map row_of) (heed-row (row_line r) (map row_line rs ++ [] ∷ []) (line-heeded r))
    ∙ ap (λ (o : Option LogRow). o ∷ map row_of (heeded (map row_line rs ++ [] ∷ []))) (line-read r is.0)
    ∙ ap (λ (os : List (Option LogRow)). Some r ∷ os) (rows-read rs is.1)

-- such a text is one by digits

mark-is-digit : (b : Bool) → ((mark b ≡ 48) ⊎ (mark b ≡ 49))
mark-is-digit true = inr refl
mark-is-digit false = inl refl

line-no-lists : (r : LogRow) → row_of_lists (row_line r) ≡ None
unfolding row_of_lists row_line
line-no-lists r =
    let first : ℕ = mark (has_number (first_detectors r.row.vehicles) 1) in
    let none = no-digit-lists first (marks 15 (λ k. has_number (first_detectors r.row.vehicles) (suc (suc k))) ++ (32 ∷ set_marks 8 r.row.pedestrians ++ (32 ∷ set_marks 4 r.row.preempts))) (mark-is-digit (has_number (first_detectors r.row.vehicles) 1)) in
    rw none (no-inputs (tick_of (seven_digits r.tick)))

text-form : (rs : List LogRow) → form_of (map row_line rs ++ [] ∷ []) ≡ Digits
text-form [] = refl
text-form (r ∷ rs) = rw (line-heeded r, line-no-lists r) refl

-- rows that rise are read back from their text
pub text-read : (rs : List LogRow) → AreRows rs → Rises 0 rs → length (log_text rs) ≤ 67108864 → log_of (log_text rs) ≡ Ok rs
text-read rs is rises fits =
    let form : form_of (lines_of (log_text rs)) ≡ Digits = ap form_of (text-lines rs) ∙ text-form rs in
    (the-rows (log_text rs) rs).1 (
      fits,
      (ap (λ (f : RowForm). map (row_in f) (heeded (lines_of (log_text rs)))) form ∙ ap (λ (ls : List (List ℕ)). map row_of (heeded ls)) (text-lines rs) ∙ rows-read rs is),
      rises,
    )

pub text-length : (rs : List LogRow) → length (log_text rs) ≡ 39 * length rs
unfolding log_text
text-length [] = refl
text-length (r ∷ rs) =
    let all : length (row_line r ++ 10 ∷ log_text rs) ≡ length (row_line r) + suc (length (log_text rs)) = length-append (row_line r) (10 ∷ log_text rs) in
    let line : length (row_line r) ≡ 38 = line-length r in
    let rest : length (log_text rs) ≡ 39 * length rs = text-length rs in
    omega (arith, all, line, rest)

-- the text of rows one after the other
pub text-append : (rs ss : List LogRow) → log_text (rs ++ ss) ≡ log_text rs ++ log_text ss
unfolding log_text
text-append [] ss = refl
text-append (r ∷ rs) ss = ap (λ (text : List ℕ). row_line r ++ 10 ∷ text) (text-append rs ss) ∙ sym (append_assoc (row_line r) (10 ∷ log_text rs) (log_text ss))

-- the text of one row
pub text-row : (r : LogRow) → log_text (r ∷ []) ≡ row_line r ++ 10 ∷ []
unfolding log_text
text-row r = refl
