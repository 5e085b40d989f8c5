use Rattle.std.proofs.Common.{◌≡◌, ℕ, ◌+◌, ◌<◌, ◌≤◌, List, [], ◌∷◌, ◌++◌, suc, refl, sym, ap, subst, ◌∙◌, true, false, Bool, inl, inr, Option, Some, None, Result, Ok, Err, append_assoc, append-nil, if◌then◌else◌, length}
use Rattle.std.proofs.lemmas.Bool.{lt-ltb, le-ltb}
use Rattle.std.proofs.lemmas.Bool.Decides.{leb_tells}
use Rattle.tsb_lines.specs.Lines.{is_skipped, lines_of}
use Rattle.tsb_log_text.specs.Forms.{form_of, row_in}
use Rattle.tsb_log_text.specs.Logs.{rows_from, row_then, with_rows, log_of, Gives, HasRow, Rises}
use Rattle.tsb_log_text.specs.Steps.{ReadSo, Stepped}
use Rattle.tsb_log_text.specs.declared.form.RowForm.{RowForm}
use Rattle.tsb_log_text.specs.declared.log.LogRow.{LogRow}
use Rattle.tsb_log_text.specs.declared.error.LogError.{LogError}
use Rattle.tsb_log_text.specs.declared.error.LogError.TheVariants.{Memory, TooLarge, Malformed, TickOrder}

-- what was read is in order, and no fault of a line is that of the whole text
abbrev pub Sound : ℕ → Result (List LogRow) LogError → Type 0
Sound last (Ok rows) = Rises last rows
Sound last (Err TooLarge) = ⊥
Sound last (Err e) = Unit {0}

sound-with : (last : ℕ) (r : LogRow) (read : Result (List LogRow) LogError) → last < r.tick → Sound r.tick read → Sound last (with_rows (r ∷ []) read)
sound-with last r (Ok rows) lt h = (lt, h)
sound-with last r (Err Memory) lt h = tt
sound-with last r (Err TooLarge) lt h = h
sound-with last r (Err (Malformed n)) lt h = tt
sound-with last r (Err (TickOrder n)) lt h = tt

sound-then : (n last : ℕ) (o : Option LogRow) (rest : ℕ → Result (List LogRow) LogError) → ((tick : ℕ) → Sound tick (rest tick)) → Sound last (row_then n last o rest)
sound-then n last None rest h = tt
sound-then n last (Some r) rest h = elim (leb_tells (suc last) r.tick) [
  | inl lt ↦ rw lt.0 (sound-with last r (rest r.tick) lt.1 (h r.tick))
  | inr off ↦ rw off.0 tt
]

sound-choice : (last : ℕ) (b : Bool) (x y : Result (List LogRow) LogError) → Sound last x → Sound last y → Sound last (if b then x else y)
sound-choice last true x y h k = h
sound-choice last false x y h k = k

sound : (form : RowForm) (n last : ℕ) (lines : List (List ℕ)) → Sound last (rows_from form n last lines)
unfolding rows_from
sound form n last [] = tt
sound form n last (line ∷ lines) =
    sound-choice last (is_skipped line) (rows_from form (n + 1) last lines) (row_then n last (row_in form line) (λ tick. rows_from form (n + 1) tick lines))
    (sound form (n + 1) last lines) (sound-then n last (row_in form line) (λ tick. rows_from form (n + 1) tick lines) (λ tick. sound form (n + 1) tick lines))

-- the ticks of what was read rise
pub rises : (form : RowForm) (lines : List (List ℕ)) (rows : List LogRow) → rows_from form 1 0 lines ≡ Ok rows → Rises 0 rows
rises form lines rows e = let P : Result (List LogRow) LogError → Type 0 = λ r. Sound 0 r in subst P e (sound form 1 0 lines)

-- no line makes the text too large
pub never-large : (form : RowForm) (n last : ℕ) (lines : List (List ℕ)) → rows_from form n last lines ≡ Err TooLarge → ⊥
never-large form n last lines e = let P : Result (List LogRow) LogError → Type 0 = λ r. Sound last r in subst P e (sound form n last lines)

-- a line that is skipped
pub skipped : (form : RowForm) (rows : List LogRow) (n last : ℕ) (line : List ℕ) (lines : List (List ℕ)) → is_skipped line ≡ true
    → with_rows rows (rows_from form n last (line ∷ lines)) ≡ with_rows rows (rows_from form (n + 1) last lines)
unfolding rows_from
skipped form rows n last line lines e = rw e refl

-- what a line that is not skipped gives
row-first : (form : RowForm) (n last : ℕ) (line : List ℕ) (lines : List (List ℕ)) → is_skipped line ≡ false
    → rows_from form n last (line ∷ lines) ≡ row_then n last (row_in form line) (λ tick. rows_from form (n + 1) tick lines)
unfolding rows_from
row-first form n last line lines e = rw e refl

pub malformed : (form : RowForm) (n last : ℕ) (line : List ℕ) (lines : List (List ℕ)) → is_skipped line ≡ false → row_in form line ≡ None → rows_from form n last (line ∷ lines) ≡ Err (Malformed n)
malformed form n last line lines e none = row-first form n last line lines e ∙ ap (λ (o : Option LogRow). row_then n last o (λ tick. rows_from form (n + 1) tick lines)) none

pub out-of-order : (form : RowForm) (n last : ℕ) (line : List ℕ) (lines : List (List ℕ)) (r : LogRow) → is_skipped line ≡ false → row_in form line ≡ Some r → r.tick ≤ last
    → rows_from form n last (line ∷ lines) ≡ Err (TickOrder n)
out-of-order form n last line lines r e some le =
    row-first form n last line lines e ∙ ap (λ (o : Option LogRow). row_then n last o (λ tick. rows_from form (n + 1) tick lines)) some ∙ rw (le-ltb last r.tick le) refl

with-one : (rows : List LogRow) (r : LogRow) (read : Result (List LogRow) LogError) → with_rows rows (with_rows (r ∷ []) read) ≡ with_rows (rows ++ r ∷ []) read
with-one rows r (Ok more) = ap (λ (v : List LogRow). Ok v) (sym (append_assoc rows (r ∷ []) more))
with-one rows r (Err e) = refl

pub taken : (form : RowForm) (rows : List LogRow) (n last : ℕ) (line : List ℕ) (lines : List (List ℕ)) (r : LogRow) → is_skipped line ≡ false → row_in form line ≡ Some r → last < r.tick
    → with_rows rows (rows_from form n last (line ∷ lines)) ≡ with_rows (rows ++ r ∷ []) (rows_from form (n + 1) r.tick lines)
taken form rows n last line lines r e some lt =
    let first : rows_from form n last (line ∷ lines) ≡ with_rows (r ∷ []) (rows_from form (n + 1) r.tick lines) =
    row-first form n last line lines e ∙ ap (λ (o : Option LogRow). row_then n last o (λ tick. rows_from form (n + 1) tick lines)) some ∙ rw (lt-ltb last r.tick lt) refl in
    ap (with_rows rows) first ∙ with-one rows r (rows_from form (n + 1) r.tick lines)

-- what stands at the end of the text
pub all-read : (form : RowForm) (rows : List LogRow) (n last : ℕ) → with_rows rows (rows_from form n last []) ≡ Ok rows
unfolding rows_from
all-read form rows n last = ap (λ (v : List LogRow). Ok v) (append-nil rows)

within-limit : (form : RowForm) (text : List ℕ) → form ≡ form_of (lines_of text) → length text ≤ 67108864 → log_of text ≡ rows_from form 1 0 (lines_of text)
within-limit form text formed le = rw (le-ltb 67108864 (length text) le) (ap (λ (f : RowForm). rows_from f 1 0 (lines_of text)) (sym formed))

-- what a fault of a line says of the whole text
fault-says : (form : RowForm) (text : List ℕ) (rows : List LogRow) (n last : ℕ) (lines : List (List ℕ)) (e : LogError) → form ≡ form_of (lines_of text) → length text ≤ 67108864
    → with_rows rows (rows_from form n last lines) ≡ rows_from form 1 0 (lines_of text) → rows_from form n last lines ≡ Err e → log_of text ≡ Err e
fault-says form text rows n last lines e formed le read h = within-limit form text formed le ∙ sym read ∙ ap (with_rows rows) h

-- ## The lines that were read

-- they are the first lines of the text, which has this form, and whatever lines follow give the same after these rows as after
-- them
pub record IsAfter (form : RowForm) (text : List ℕ) (rest : List (List ℕ)) (rows : List LogRow) (n last : ℕ) : Type 0 where
  pub formed : form ≡ form_of (lines_of text)
  pub first : List (List ℕ)
  pub all : lines_of text ≡ first ++ rest
  pub read : (lines : List (List ℕ)) → with_rows rows (rows_from form n last lines) ≡ rows_from form 1 0 (first ++ lines)

with-none : (read : Result (List LogRow) LogError) → with_rows [] read ≡ read
with-none (Ok rows) = refl
with-none (Err e) = refl

pub after-none : (form : RowForm) (text : List ℕ) (rows : List LogRow) → form ≡ form_of (lines_of text) → rows ≡ [] → IsAfter form text (lines_of text) rows 1 0
after-none form text rows formed none = record {
  formed = formed;
  first = [];
  all = refl;
  read = λ lines. ap (λ (v : List LogRow). with_rows v (rows_from form 1 0 lines)) none ∙ with-none (rows_from form 1 0 lines);
}

pub after-line : (form : RowForm) (text line : List ℕ) (rest others : List (List ℕ)) (rows new : List LogRow) (n last tick : ℕ) → IsAfter form text rest rows n last → rest ≡ line ∷ others → Stepped form (Ok tick) rows last n line new
    → IsAfter form text others new (n + 1) tick
after-line form text line rest others rows new n last tick h first s = record {
  formed = h.formed;
  first = h.first ++ line ∷ [];
  all = h.all ∙ ap (λ (ls : List (List ℕ)). h.first ++ ls) first ∙ sym (append_assoc h.first (line ∷ []) others);
  read = λ lines. sym (s lines) ∙ h.read (line ∷ lines) ∙ ap (rows_from form 1 0) (sym (append_assoc h.first (line ∷ []) lines));
}

-- all of the text gives what is left after these rows
pub after-whole : (form : RowForm) (text : List ℕ) (rest : List (List ℕ)) (rows : List LogRow) (n last : ℕ) → IsAfter form text rest rows n last → with_rows rows (rows_from form n last rest) ≡ rows_from form 1 0 (lines_of text)
after-whole form text rest rows n last h = h.read rest ∙ ap (rows_from form 1 0) (sym h.all)

has-row : (form : RowForm) (text line : List ℕ) (rest others : List (List ℕ)) (rows new : List LogRow) (n last : ℕ) → IsAfter form text rest rows n last → rest ≡ line ∷ others → Stepped form (Err Memory) rows last n line new → HasRow text
has-row form text line rest others rows new n last h first s = record {
  first = h.first ++ line ∷ [];
  others = others;
  all = h.all ∙ ap (λ (ls : List (List ℕ)). h.first ++ ls) first ∙ sym (append_assoc h.first (line ∷ []) others);
  rows = rows;
  row = s.0;
  right = ap (λ (f : RowForm). rows_from f 1 0 (h.first ++ line ∷ [])) (sym h.formed) ∙ sym (h.read (line ∷ [])) ∙ s.1 [] ∙ all-read form (rows ++ s.0 ∷ []) (n + 1) s.0.tick;
}

-- a line with a fault, or a row without room
pub faulty : (form : RowForm) (text line : List ℕ) (rest others : List (List ℕ)) (rows new : List LogRow) (n last : ℕ) (e : LogError) → length text ≤ 67108864
    → IsAfter form text rest rows n last → rest ≡ line ∷ others → Stepped form (Err e) rows last n line new → ReadSo (Err e) text new
faulty form text line rest others rows new n last Memory le h first s =
    (λ large. never-large form 1 0 (lines_of text) (sym (within-limit form text h.formed le) ∙ large), has-row form text line rest others rows new n last h first s)
faulty form text line rest others rows new n last TooLarge le h first s = fault-says form text rows n last rest TooLarge h.formed le (after-whole form text rest rows n last h) (rw first (s others))
faulty form text line rest others rows new n last (Malformed m) le h first s = fault-says form text rows n last rest (Malformed m) h.formed le (after-whole form text rest rows n last h) (rw first (s others))
faulty form text line rest others rows new n last (TickOrder m) le h first s = fault-says form text rows n last rest (TickOrder m) h.formed le (after-whole form text rest rows n last h) (rw first (s others))

-- of all of it
pub faulty-gives : (text : List ℕ) (rows : List LogRow) (e : LogError) → ReadSo (Err e) text rows → Gives (Err e) (log_of text)
faulty-gives text rows Memory h = h.0
faulty-gives text rows TooLarge h = h
faulty-gives text rows (Malformed m) h = h
faulty-gives text rows (TickOrder m) h = h

-- and where memory ran out, it has a row
pub wants-row : (text : List ℕ) (rows : List LogRow) (e : LogError) → ReadSo (Err e) text rows → e ≡ Memory → HasRow text
wants-row text rows Memory h is = h.1
wants-row text rows TooLarge h is = absurd (cc)
wants-row text rows (Malformed m) h is = absurd (cc)
wants-row text rows (TickOrder m) h is = absurd (cc)

-- the last line
pub last-read : (form : RowForm) (text line : List ℕ) (rest : List (List ℕ)) (rows new : List LogRow) (n last tick : ℕ) → length text ≤ 67108864 → IsAfter form text rest rows n last → rest ≡ line ∷ [] → Stepped form (Ok tick) rows last n line new → log_of text ≡ Ok new
last-read form text line rest rows new n last tick le h only s =
    within-limit form text h.formed le ∙ sym (after-whole form text rest rows n last h) ∙ ap (λ (ls : List (List ℕ)). with_rows rows (rows_from form n last ls)) only ∙ s [] ∙ all-read form new (n + 1) tick

-- the rows of a text rise
pub log-rises : (text : List ℕ) (rows : List LogRow) → length text ≤ 67108864 → log_of text ≡ Ok rows → Rises 0 rows
log-rises text rows le h = rises (form_of (lines_of text)) (lines_of text) rows (sym (within-limit (form_of (lines_of text)) text refl le) ∙ h)
