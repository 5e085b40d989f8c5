-- The laws of src/laws.rt.
use Rattle.std.proofs.Common.{◌≡◌, ◌∙◌, ℕ, ◌+◌, ◌-◌, ◌*◌, ◌/◌, ◌%◌, ◌<◌, ◌≤◌, ◌==◌, Bool, true, false, zero, suc, List, [], ◌∷◌, length, map, refl, sym, ap, subst, arith, inl, inr, Option, Some, None, Result, Ok, Err, get_or, if◌then◌else◌}
use Rattle.std.proofs.lemmas.Bool.{lt-ltb, le-ltb}
use Rattle.std.proofs.lemmas.Bool.Decides.{leb_tells, eqb_tells}
use Rattle.std.proofs.lemmas.Nat.Bits.{bit_at_lowest, bit_at-suc}
use Rattle.std.specs.Int.{bit_at}
use Rattle.tsb_lines.specs.Lines.{is_skipped, lines_of}
use Rattle.tsb_types.specs.Sets.{names, all_off}
use Rattle.tsb_log_text.specs.Forms.{form_of, row_in}
use Rattle.tsb_log_text.specs.Rows.{list_in_digits, onto_digits}
use Rattle.tsb_log_text.specs.Logs.{rows_from, row_then, with_rows, log_of, row_at, Rises}
use Rattle.tsb_log_text.specs.Places.{tick_at, no_row}
use Rattle.tsb_log_text.specs.Laws.{heeded, last_tick, StandsBehind, AreTheRows, AreMalformedThere, AreOutOfOrderThere}
use Rattle.tsb_log_text.proofs.PlaceLemmas.{row-at}
use Rattle.tsb_log_text.specs.declared.form.RowForm.{RowForm}
use Rattle.tsb_log_text.specs.declared.log.LogRow.{LogRow}
use Rattle.tsb_log_text.specs.declared.error.LogError.{LogError}
use Rattle.tsb_log_text.specs.declared.error.LogError.TheVariants.{Memory, TooLarge, Malformed, TickOrder}

-- the digits

lowest-digit : (m b : ℕ) → b < 2 → (b + 2 * m) % 2 ≡ b
lowest-digit m b lt = omega arith

higher-digits : (m b : ℕ) → b < 2 → (b + 2 * m) / 2 ≡ m
higher-digits m b lt = omega arith

abbrev value : Option ℕ → ℕ
value None = 0
value (Some n) = n

abbrev Nothing : Option ℕ → Type 0
Nothing None = Unit {0}
Nothing (Some n) = ⊥

-- a digit 0 or 1 before others that spell m
record Digit (d m list : ℕ) : Type 0 where
  bit : ℕ
  small : bit < 2
  is : list ≡ bit + 2 * m
  tells : (bit == 1) ≡ (d == 49)

digit-shape : (d m list : ℕ) → onto_digits d (Some m) ≡ Some list → Digit d m list
digit-shape d m list e = elim (eqb_tells d 48) [
  | inl z ↦ record { bit = 0; small = omega arith; is = (let h : 2 * m ≡ list = ap value (rw z.0 at e) in omega (arith, h)); tells = rw z.1 refl }
  | inr off ↦ elim (eqb_tells d 49) [
    | inl z ↦ record { bit = 1; small = omega arith; is = sym (ap value (rw (off.0, z.0) at e)); tells = rw z.1 refl }
    | inr other ↦ absurd (subst Nothing (rw (off.0, other.0) at e) tt)
  ]
]

digit-first : (d : ℕ) (rest : Option ℕ) (list : ℕ) → onto_digits d rest ≡ Some list → names list 1 ≡ (d == 49)
digit-first d None list e = absurd (subst Nothing e tt)
digit-first d (Some m) list e =
    let s = digit-shape d m list e in
    ap (λ n. n == 1) (bit_at_lowest list ∙ ap (λ n. n % 2) s.is ∙ lowest-digit m s.bit s.small) ∙ s.tells

digit-later : (d : ℕ) (rest : Option ℕ) (list k : ℕ) → onto_digits d rest ≡ Some list → (m : ℕ) × (rest ≡ Some m) × (names list (suc (suc k)) ≡ names m (suc k))
digit-later d None list k e = absurd (subst Nothing e tt)
digit-later d (Some m) list k e =
    let s = digit-shape d m list e in
    let half : list / 2 ≡ m = ap (λ n. n / 2) s.is ∙ higher-digits m s.bit s.small in
    (m, refl, ap (λ n. n == 1) (bit_at-suc list k ∙ ap (λ n. bit_at n k) half))

pub digits-tell : (digits : List ℕ) (list k : ℕ) → list_in_digits digits ≡ Some list → k < length digits → names list (suc k) ≡ (get_or digits k 0 == 49)
digits-tell [] list k e lt = absurd (omega (arith, lt))
digits-tell (d ∷ ds) list zero e lt = digit-first d (list_in_digits ds) list e
digits-tell (d ∷ ds) list (suc k) e lt = let later = digit-later d (list_in_digits ds) list k e in later.2 ∙ digits-tell ds later.0 k later.1 (omega (arith, lt))

-- rows in force

next-later : (last : ℕ) (rows : List LogRow) (i : ℕ) → Rises last rows → suc i < length rows → tick_at rows i < tick_at rows (suc i)
next-later last [] i h lt = absurd (omega (arith, lt))
next-later last (r ∷ []) i h lt = absurd (omega (arith, lt))
next-later last (r ∷ s ∷ rs) zero h lt = h.1.0
next-later last (r ∷ s ∷ rs) (suc i) h lt = next-later r.tick (s ∷ rs) i h.1 (omega (arith, lt))

pub in-force : (rows : List LogRow) (tick i : ℕ) → Rises 0 rows → i < length rows → tick_at rows i ≤ tick
    → ((k : ℕ) → k < length rows → tick_at rows k ≤ tick → tick_at rows k ≤ tick_at rows i) → row_at rows tick ≡ (get_or rows i no_row).row
in-force rows tick i h lt low most =
    sym (row-at rows tick (suc i) h (record {
      within = lt;
      below = λ from. (let P : ℕ → Type 0 = λ j. tick_at rows j ≤ tick in let same : i ≡ suc i - 1 = omega arith in subst P same low);
      above = λ more. elim (leb_tells (tick_at rows (suc i)) tick) [
        | inl le ↦ absurd (let next : tick_at rows i < tick_at rows (suc i) = next-later 0 rows i h more in let back : tick_at rows (suc i) ≤ tick_at rows i = most (suc i) more le.1 in omega (arith, next, back))
        | inr gt ↦ gt.1
      ];
    }))

pub off-before : (rows : List LogRow) (tick : ℕ) → Rises 0 rows → ((k : ℕ) → k < length rows → tick < tick_at rows k) → row_at rows tick ≡ all_off
off-before rows tick h all = sym (row-at rows tick 0 h (record { within = omega arith; below = λ from. absurd (omega (arith, from)); above = λ more. all 0 more }))

-- what was read, or the first fault

abbrev Explained : RowForm → ℕ → ℕ → List (List ℕ) → Result (List LogRow) LogError → Type 0
Explained form first last lines (Ok rows) = (map (row_in form) (heeded lines) ≡ map Some rows) × Rises last rows
Explained form first last lines (Err Memory) = ⊥
Explained form first last lines (Err TooLarge) = ⊥
Explained form first last lines (Err (Malformed m)) = (rows : List LogRow) × (line : List ℕ) × StandsBehind form first last rows m line lines × (row_in form line ≡ None)
Explained form first last lines (Err (TickOrder m)) =
    (rows : List LogRow) × (line : List ℕ) × (row : LogRow) × StandsBehind form first last rows m line lines × (row_in form line ≡ Some row) × (row.tick ≤ last_tick last rows)

heed-skipped : (line : List ℕ) (lines : List (List ℕ)) → is_skipped line ≡ true → heeded (line ∷ lines) ≡ heeded lines
heed-skipped line lines e = rw e refl

-- a line that is not skipped is heeded
pub heed-row : (line : List ℕ) (lines : List (List ℕ)) → is_skipped line ≡ false → heeded (line ∷ lines) ≡ line ∷ heeded lines
heed-row line lines e = rw e refl

read-row : (form : RowForm) (line : List ℕ) (lines : List (List ℕ)) (r : LogRow) (rows : List LogRow) → is_skipped line ≡ false → row_in form line ≡ Some r
    → map (row_in form) (heeded lines) ≡ map Some rows → map (row_in form) (heeded (line ∷ lines)) ≡ map Some (r ∷ rows)
read-row form line lines r rows e some h =
    ap (map (row_in form)) (heed-row line lines e) ∙ ap (λ (o : Option LogRow). o ∷ map (row_in form) (heeded lines)) some ∙ ap (λ (os : List (Option LogRow)). Some r ∷ os) h

stands-skip : (form : RowForm) (first last : ℕ) (rows : List LogRow) (m : ℕ) (at line : List ℕ) (lines : List (List ℕ)) → is_skipped line ≡ true
    → StandsBehind form (first + 1) last rows m at lines → StandsBehind form first last rows m at (line ∷ lines)
stands-skip form first last rows m at line lines e s = record {
  front = line ∷ s.front;
  back = s.back;
  whole = ap (λ (ls : List (List ℕ)). line ∷ ls) s.whole;
  place = (let p : m ≡ first + 1 + length s.front = s.place in omega (arith, p));
  read = ap (map (row_in form)) (heed-skipped line s.front e) ∙ s.read;
  rises = s.rises;
  heeded = s.heeded;
}

stands-row : (form : RowForm) (first last : ℕ) (r : LogRow) (rows : List LogRow) (m : ℕ) (at line : List ℕ) (lines : List (List ℕ)) → is_skipped line ≡ false → row_in form line ≡ Some r
    → last < r.tick → StandsBehind form (first + 1) r.tick rows m at lines → StandsBehind form first last (r ∷ rows) m at (line ∷ lines)
stands-row form first last r rows m at line lines e some lt s = record {
  front = line ∷ s.front;
  back = s.back;
  whole = ap (λ (ls : List (List ℕ)). line ∷ ls) s.whole;
  place = (let p : m ≡ first + 1 + length s.front = s.place in omega (arith, p));
  read = read-row form line s.front r rows e some s.read;
  rises = (lt, s.rises);
  heeded = s.heeded;
}

stands-first : (form : RowForm) (first last : ℕ) (line : List ℕ) (lines : List (List ℕ)) → is_skipped line ≡ false → StandsBehind form first last [] first line (line ∷ lines)
stands-first form first last line lines e = record { front = []; back = lines; whole = refl; place = omega arith; read = refl; rises = tt; heeded = e }

explained-skip : (form : RowForm) (first last : ℕ) (line : List ℕ) (lines : List (List ℕ)) (read : Result (List LogRow) LogError) → is_skipped line ≡ true
    → Explained form (first + 1) last lines read → Explained form first last (line ∷ lines) read
explained-skip form first last line lines (Ok rows) e h = (ap (map (row_in form)) (heed-skipped line lines e) ∙ h.0, h.1)
explained-skip form first last line lines (Err Memory) e h = h
explained-skip form first last line lines (Err TooLarge) e h = h
explained-skip form first last line lines (Err (Malformed m)) e h = (h.0, h.1, stands-skip form first last h.0 m h.1 line lines e h.2, h.3)
explained-skip form first last line lines (Err (TickOrder m)) e h = (h.0, h.1, h.2, stands-skip form first last h.0 m h.1 line lines e h.3, h.4, h.5)

explained-row : (form : RowForm) (first last : ℕ) (line : List ℕ) (lines : List (List ℕ)) (r : LogRow) (read : Result (List LogRow) LogError) → is_skipped line ≡ false
    → row_in form line ≡ Some r → last < r.tick → Explained form (first + 1) r.tick lines read → Explained form first last (line ∷ lines) (with_rows (r ∷ []) read)
explained-row form first last line lines r (Ok rows) e some lt h = (read-row form line lines r rows e some h.0, (lt, h.1))
explained-row form first last line lines r (Err Memory) e some lt h = h
explained-row form first last line lines r (Err TooLarge) e some lt h = h
explained-row form first last line lines r (Err (Malformed m)) e some lt h = (r ∷ h.0, h.1, stands-row form first last r h.0 m h.1 line lines e some lt h.2, h.3)
explained-row form first last line lines r (Err (TickOrder m)) e some lt h = (r ∷ h.0, h.1, h.2, stands-row form first last r h.0 m h.1 line lines e some lt h.3, h.4, h.5)

explained-then : (form : RowForm) (first last : ℕ) (line : List ℕ) (lines : List (List ℕ)) (o : Option LogRow) (rest : ℕ → Result (List LogRow) LogError) → is_skipped line ≡ false
    → row_in form line ≡ o → ((tick : ℕ) → Explained form (first + 1) tick lines (rest tick)) → Explained form first last (line ∷ lines) (row_then first last o rest)
explained-then form first last line lines None rest e is h = ([], line, stands-first form first last line lines e, is)
explained-then form first last line lines (Some r) rest e is h = elim (leb_tells (suc last) r.tick) [
  | inl lt ↦ rw lt.0 (explained-row form first last line lines r (rest r.tick) e is lt.1 (h r.tick))
  | inr ge ↦ rw ge.0 ([], line, r, stands-first form first last line lines e, is, (let le : r.tick < suc last = ge.1 in omega (arith, le)))
]

explained-line : (form : RowForm) (first last : ℕ) (line : List ℕ) (lines : List (List ℕ)) (b : Bool) (rest : ℕ → Result (List LogRow) LogError) → is_skipped line ≡ b
    → ((tick : ℕ) → Explained form (first + 1) tick lines (rest tick)) → Explained form first last (line ∷ lines) (if b then rest last else row_then first last (row_in form line) rest)
explained-line form first last line lines true rest e h = explained-skip form first last line lines (rest last) e (h last)
explained-line form first last line lines false rest e h = explained-then form first last line lines (row_in form line) rest e refl h

explained : (form : RowForm) (first last : ℕ) (lines : List (List ℕ)) → Explained form first last lines (rows_from form first last lines)
unfolding rows_from
explained form first last [] = (refl, tt)
explained form first last (line ∷ lines) = explained-line form first last line lines (is_skipped line) (λ tick. rows_from form (first + 1) tick lines) refl (λ tick. explained form (first + 1) tick lines)

-- and what rises is read

abbrev head_of : List (Option LogRow) → Option LogRow
head_of [] = None
head_of (o ∷ os) = o

abbrev tail_of : List (Option LogRow) → List (Option LogRow)
tail_of [] = []
tail_of (o ∷ os) = os

back-row : (form : RowForm) (first last : ℕ) (line : List ℕ) (lines : List (List ℕ)) (rows : List LogRow) (rest : ℕ → Result (List LogRow) LogError)
    → row_in form line ∷ map (row_in form) (heeded lines) ≡ map Some rows → Rises last rows
    → ((tick : ℕ) (more : List LogRow) → map (row_in form) (heeded lines) ≡ map Some more → Rises tick more → rest tick ≡ Ok more) → row_then first last (row_in form line) rest ≡ Ok rows
back-row form first last line lines [] rest h rises back = absurd (let e : suc (length (map (row_in form) (heeded lines))) ≡ 0 = ap length h in omega (arith, e))
back-row form first last line lines (r ∷ rows) rest h rises back =
    ap (λ (o : Option LogRow). row_then first last o rest) (ap head_of h)
    ∙ rw (lt-ltb last r.tick rises.0) (ap (with_rows (r ∷ [])) (back r.tick rows (ap tail_of h) rises.1))

back-line : (form : RowForm) (first last : ℕ) (line : List ℕ) (lines : List (List ℕ)) (rows : List LogRow) (b : Bool) (rest : ℕ → Result (List LogRow) LogError) → is_skipped line ≡ b
    → map (row_in form) (heeded (line ∷ lines)) ≡ map Some rows → Rises last rows
    → ((tick : ℕ) (more : List LogRow) → map (row_in form) (heeded lines) ≡ map Some more → Rises tick more → rest tick ≡ Ok more)
    → (if b then rest last else row_then first last (row_in form line) rest) ≡ Ok rows
back-line form first last line lines rows true rest e h rises back = back last rows (sym (ap (map (row_in form)) (heed-skipped line lines e)) ∙ h) rises
back-line form first last line lines rows false rest e h rises back = back-row form first last line lines rows rest (sym (ap (map (row_in form)) (heed-row line lines e)) ∙ h) rises back

back : (form : RowForm) (first last : ℕ) (lines : List (List ℕ)) (rows : List LogRow) → map (row_in form) (heeded lines) ≡ map Some rows → Rises last rows → rows_from form first last lines ≡ Ok rows
unfolding rows_from
back form first last [] [] h rises = refl
back form first last [] (r ∷ rows) h rises = absurd (let e : 0 ≡ suc (length (map Some rows)) = ap length h in omega (arith, e))
back form first last (line ∷ lines) rows h rises =
    back-line form first last line lines rows (is_skipped line) (λ tick. rows_from form (first + 1) tick lines) refl h rises (λ tick more g r. back form (first + 1) tick lines more g r)

-- the whole text

abbrev IsTooLarge : Result (List LogRow) LogError → Type 0
IsTooLarge (Err TooLarge) = Unit {0}
IsTooLarge (Err e) = ⊥
IsTooLarge (Ok rows) = ⊥

of-lines : (text : List ℕ) (read : Result (List LogRow) LogError) → log_of text ≡ read → (IsTooLarge read → ⊥)
    → (length text ≤ 67108864) × (rows_from (form_of (lines_of text)) 1 0 (lines_of text) ≡ read)
of-lines text read e fits = elim (leb_tells (suc 67108864) (length text)) [
  | inl gt ↦ absurd (fits (subst IsTooLarge (rw gt.0 at e) tt))
  | inr le ↦ ((let lt : length text < suc 67108864 = le.1 in omega (arith, lt)), (rw le.0 at e))
]

explained-text : (form : RowForm) (text : List ℕ) (read : Result (List LogRow) LogError) → rows_from form 1 0 (lines_of text) ≡ read → Explained form 1 0 (lines_of text) read
explained-text form text read e = let P : Result (List LogRow) LogError → Type 0 = λ r. Explained form 1 0 (lines_of text) r in subst P e (explained form 1 0 (lines_of text))

pub the-rows : AreTheRows
the-rows text rows = (
  λ e. (let lines = of-lines text (Ok rows) e (λ large. large) in let read = explained-text (form_of (lines_of text)) text (Ok rows) lines.1 in (lines.0, read.0, read.1)),
  λ h. rw (le-ltb 67108864 (length text) h.0) (back (form_of (lines_of text)) 1 0 (lines_of text) rows h.1 h.2),
)

pub malformed-there : AreMalformedThere
malformed-there text n e =
    let lines = of-lines text (Err (Malformed n)) e (λ large. large) in explained-text (form_of (lines_of text)) text (Err (Malformed n)) lines.1

pub out-of-order-there : AreOutOfOrderThere
out-of-order-there text n e =
    let lines = of-lines text (Err (TickOrder n)) e (λ large. large) in explained-text (form_of (lines_of text)) text (Err (TickOrder n)) lines.1
