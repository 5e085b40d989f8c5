-- The text of a log by lists is read as its rows.
use Rattle.std.proofs.Common.{◌≡◌, ◌∙◌, ℕ, ◌^◌, ◌<◌, ◌≤◌, ◌||◌, Bool, true, false, zero, suc, List, [], ◌∷◌, ◌++◌, append-nil, append_assoc, drop, length, map, refl, sym, ap, arith, eqb, ltb, leb, inl, inr, Option, Some, None, Ok, codes, if◌then◌else◌}
use Rattle.std.proofs.lemmas.Bool.{leb-false, lt-ltb, or_parts}
use Rattle.std.specs.List.{list_any}
use Rattle.std.proofs.lemmas.Bool.Decides.{eqb_tells}
use Rattle.tsb_lines.specs.Digits.{digit, seven_digits}
use Rattle.tsb_lines.specs.Lines.{is_skipped, lines_of}
use Rattle.tsb_lines.proofs.LineLemmas.{lines-joined}
use Rattle.tsb_types.specs.Sets.{all_off, list_of, names, number_of_bits}
use Rattle.tsb_types.proofs.SetLemmas.{list_of-names_within}
use Rattle.tsb_log_text.specs.Forms.{form_of, is_beyond_digits, row_in}
use Rattle.tsb_log_text.specs.Laws.{AreReadByLists, AreReadInTheirForm, heeded}
use Rattle.tsb_log_text.specs.Logs.{log_of}
use Rattle.tsb_log_text.specs.LogText.{AreRows, IsRow, log_text}
use Rattle.tsb_log_text.specs.ListText.{AreListed, IsListed, item_text, items_behind, kind_text, later_items, line_in, lists_line, lists_text, runs_from, text_in}
use Rattle.tsb_log_text.specs.RowLists.{after_pedestrians, after_vehicles, is_of, list_before, list_of_numbers, lists_of, numbers_from, own_list, parts, row_of_lists, row_of_three}
use Rattle.tsb_log_text.specs.Rows.{field, has_space, row_with, tick_of}
use Rattle.tsb_log_text.specs.declared.form.RowForm.{RowForm}
use Rattle.tsb_log_text.specs.declared.form.RowForm.TheVariants.{Digits, Lists}
use Rattle.tsb_log_text.specs.declared.log.LogRow.{LogRow}
use Rattle.tsb_log_text.proofs.ItemLemmas.{Lacks, Rising, equal, items-lack, items-list, lacks-both, lacks-feed, lacks-return, parts-alone, parts-joined, runs-list, runs-rising}
use Rattle.tsb_log_text.proofs.LawLemmas.{the-rows, heed-row}
use Rattle.tsb_log_text.proofs.TextLemmas.{text-append, text-read, text-row, tick-heeded, tick-read}

-- ## Words, one for each kind with something on

-- a space before each word
abbrev spaced : List (List ℕ) → List ℕ
spaced [] = []
spaced (w ∷ ws) = 32 ∷ (w ++ spaced ws)

-- the word of a kind before others, where something is on
abbrev onto_words : ℕ → List (ℕ × ℕ) → List (List ℕ) → List (List ℕ)
onto_words letter [] ws = ws
onto_words letter (r ∷ rs) ws = (letter ∷ (item_text r ++ later_items rs)) ∷ ws

behind-spaced : (letter : ℕ) (rs : List (ℕ × ℕ)) (ws : List (List ℕ)) → items_behind (32 ∷ letter ∷ []) rs ++ spaced ws ≡ spaced (onto_words letter rs ws)
behind-spaced letter [] ws = refl
behind-spaced letter (r ∷ rs) ws = refl

-- none of these has the byte b
abbrev AllLack : ℕ → List (List ℕ) → Type 0
AllLack b [] = Unit {0}
AllLack b (w ∷ ws) = Lacks b w × AllLack b ws

onto-lack : (b letter most : ℕ) (rs : List (ℕ × ℕ)) (ws : List (List ℕ)) → b < 44 → 44 < letter → most ≤ 64 → Rising most 0 rs → AllLack b ws → AllLack b (onto_words letter rs ws)
onto-lack b letter most [] ws low high few h all = all
onto-lack b letter most (r ∷ rs) ws low high few h all = ((λ e. omega (arith, e, low, high), items-lack b most 0 r rs low few h), all)

parts-spaced : (w : List ℕ) (ws : List (List ℕ)) → Lacks 32 w → AllLack 32 ws → parts 32 (w ++ spaced ws) ≡ w ∷ ws
parts-spaced w [] f h = ap (parts 32) (append-nil w) ∙ parts-alone 32 w f
parts-spaced w (x ∷ ws) f h = parts-joined 32 w (x ++ spaced ws) f ∙ ap (λ (ps : List (List ℕ)). w ∷ ps) (parts-spaced x ws h.0 h.1)

spaced-lacks : (b : ℕ) (ws : List (List ℕ)) → (◌≡◌ {A = ℕ} 32 b → ⊥) → AllLack b ws → Lacks b (spaced ws)
spaced-lacks b [] apart h = tt
spaced-lacks b (w ∷ ws) apart h = (apart, lacks-both b w (spaced ws) h.0 (spaced-lacks b ws apart h.1))

-- ## The list of a kind

abbrev or_zero : Option ℕ → ℕ
or_zero None = 0
or_zero (Some n) = n

-- the first word is of another letter, or there is none
abbrev IsOther : ℕ → List (List ℕ) → Type 0
IsOther letter [] = Unit {0}
IsOther letter (w ∷ ws) = is_of letter w ≡ false

other-words : (letter other : ℕ) (rs : List (ℕ × ℕ)) (ws : List (List ℕ)) → eqb other letter ≡ false → IsOther letter ws → IsOther letter (onto_words other rs ws)
other-words letter other [] ws e h = h
other-words letter other (r ∷ rs) ws e h = e

own-other : (letter most : ℕ) (ws : List (List ℕ)) → IsOther letter ws → own_list letter most ws ≡ Some (0, ws)
own-other letter most [] h = refl
own-other letter most (w ∷ ws) h = rw h refl

none-listed : (most : ℕ) → number_of_bits most (λ k. false) ≡ 0
unfolding number_of_bits
none-listed zero = refl
none-listed (suc n) = let rest : number_of_bits n (λ k. false) ≡ 0 = none-listed n in omega (arith, rest)

own-runs : (letter most list : ℕ) (rs : List (ℕ × ℕ)) (ws : List (List ℕ)) → IsOther letter ws → most ≤ 64 → Rising most 0 rs
    → list_of_numbers most (numbers_from most 0 (map item_text rs)) ≡ Some list → own_list letter most (onto_words letter rs ws) ≡ Some (list, ws)
own-runs letter most list [] ws other few h same =
    own-other letter most ws other ∙ ap (λ (k : ℕ). Some (k, ws)) (sym (none-listed most) ∙ ap or_zero same)
own-runs letter most list (r ∷ rs) ws other few h same =
    rw (equal letter) (ap (λ (o : Option ℕ). list_before o ws) (items-list most list r rs few h same))

own-read : (letter most word : ℕ) (ws : List (List ℕ)) → IsOther letter ws → most ≤ 64 → word < 2 ^ most
    → own_list letter most (onto_words letter (runs_from 1 most (names word)) ws) ≡ Some (word, ws)
own-read letter most word ws other few fits =
    own-runs letter most (list_of most (names word)) (runs_from 1 most (names word)) ws other few (runs-rising most 0 1 most (names word) (omega arith) (omega arith)) (runs-list most (names word) few)
    ∙ ap (λ (k : ℕ). Some (k, ws)) (list_of-names_within most word fits)

-- ## The line of a row

abbrev preempt_words : LogRow → List (List ℕ)
preempt_words r = onto_words 69 (runs_from 1 8 (names r.row.preempts.word)) []

abbrev button_words : LogRow → List (List ℕ)
button_words r = onto_words 80 (runs_from 1 16 (names r.row.pedestrians.word)) (preempt_words r)

-- all words of a row
abbrev row_words : LogRow → List (List ℕ)
row_words r = onto_words 86 (runs_from 1 64 (names r.row.vehicles.word)) (button_words r)

line-spaced : (r : LogRow) → lists_line r ≡ seven_digits r.tick ++ spaced (row_words r)
unfolding lists_line
line-spaced r =
    let before : List ℕ = seven_digits r.tick in
    let vehicles : List ℕ = kind_text (codes " V") 64 (names r.row.vehicles.word) in
    let pedestrians : List ℕ = kind_text (codes " P") 16 (names r.row.pedestrians.word) in
    let preempts : List ℕ = kind_text (codes " E") 8 (names r.row.preempts.word) in
    ap (λ (ts : List ℕ). before ++ (vehicles ++ (pedestrians ++ ts))) (sym (append-nil preempts) ∙ behind-spaced 69 (runs_from 1 8 (names r.row.preempts.word)) [])
    ∙ ap (λ (ts : List ℕ). before ++ (vehicles ++ ts)) (behind-spaced 80 (runs_from 1 16 (names r.row.pedestrians.word)) (preempt_words r))
    ∙ ap (λ (ts : List ℕ). before ++ ts) (behind-spaced 86 (runs_from 1 64 (names r.row.vehicles.word)) (button_words r))

words-lack : (b : ℕ) (r : LogRow) → b < 44 → AllLack b (row_words r)
words-lack b r low =
    onto-lack b 86 64 (runs_from 1 64 (names r.row.vehicles.word)) (button_words r) low (omega arith) (omega arith) (runs-rising 64 0 1 64 (names r.row.vehicles.word) (omega arith) (omega arith)) (
    onto-lack b 80 16 (runs_from 1 16 (names r.row.pedestrians.word)) (preempt_words r) low (omega arith) (omega arith) (runs-rising 16 0 1 16 (names r.row.pedestrians.word) (omega arith) (omega arith)) (
    onto-lack b 69 8 (runs_from 1 8 (names r.row.preempts.word)) [] low (omega arith) (omega arith) (runs-rising 8 0 1 8 (names r.row.preempts.word) (omega arith) (omega arith)) tt))

line-behind : (line : List ℕ) → eqb (length line) 7 ≡ false → ltb 7 (length line) ≡ true → has_space 7 line ≡ true
    → row_of_lists line ≡ row_with (tick_of (field 0 7 line)) (lists_of (drop 8 line))
unfolding row_of_lists
line-behind line other more space = rw (other, more, space) refl

words-row : (t : ℕ) (ws : List (List ℕ)) → AllLack 32 ws → 1 ≤ t → t ≤ 6000000
    → row_of_lists (seven_digits t ++ spaced ws) ≡ row_with (Some t) (after_vehicles (own_list 86 64 ws))
unfolding row_of_lists lists_of
words-row t [] h one most = ap (λ (o : Option ℕ). row_with o (Some all_off)) (tick-read t one most)
words-row t (w ∷ ws) h one most =
    let line : List ℕ = seven_digits t ++ spaced (w ∷ ws) in
    let n : ℕ = length (w ++ spaced ws) in
    let long : length line ≡ suc (suc (suc (suc (suc (suc (suc (suc n))))))) = refl in
    let other : eqb (length line) 7 ≡ false = elim (eqb_tells (length line) 7) [ inl z ↦ absurd (let e : length line ≡ 7 = z.1 in omega (arith, e, long)) | inr z ↦ z.0 ] in
    line-behind line other (lt-ltb 7 (length line) (omega (arith, long))) refl
    ∙ ap (λ (o : Option ℕ). row_with o (lists_of (w ++ spaced ws))) (tick-read t one most)
    ∙ ap (λ (ps : List (List ℕ)). row_with (Some t) (after_vehicles (own_list 86 64 ps))) (parts-spaced w ws h.0 h.1)

words-inputs : (r : LogRow) → IsListed r → after_vehicles (own_list 86 64 (row_words r)) ≡ Some r.row
words-inputs r is =
    let v : ℕ = r.row.vehicles.word in
    let p : ℕ = r.row.pedestrians.word in
    let buttons : List (List ℕ) = button_words r in
    let preempts : List (List ℕ) = preempt_words r in
    let apart : IsOther 80 preempts = other-words 80 69 (runs_from 1 8 (names r.row.preempts.word)) [] refl tt in
    let also : IsOther 86 preempts = other-words 86 69 (runs_from 1 8 (names r.row.preempts.word)) [] refl tt in
    ap after_vehicles (own-read 86 64 v buttons (other-words 86 80 (runs_from 1 16 (names p)) preempts refl also) (omega arith) is.vehicles)
    ∙ ap (after_pedestrians v) (own-read 80 16 p preempts apart (omega arith) is.pedestrians)
    ∙ ap (row_of_three v p) (own-read 69 8 r.row.preempts.word [] tt (omega arith) is.preempts)

line-read : (r : LogRow) → IsListed r → row_of_lists (lists_line r) ≡ Some r
line-read r is =
    ap row_of_lists (line-spaced r) ∙ words-row r.tick (row_words r) (words-lack 32 r (omega arith)) is.from_one is.within
    ∙ ap (row_with (Some r.tick)) (words-inputs r is)

digit-lacks : (b t unit : ℕ) → b < 48 → digit t unit ≡ b → ⊥
digit-lacks b t unit low e = absurd (omega (arith, e, low))

line-lacks : (b : ℕ) (r : LogRow) → b < 32 → Lacks b (lists_line r)
line-lacks b r low =
    let apart : (unit : ℕ) → digit r.tick unit ≡ b → ⊥ = λ unit. digit-lacks b r.tick unit (omega (arith, low)) in
    let words : Lacks b (spaced (row_words r)) = spaced-lacks b (row_words r) (λ e. omega (arith, e, low)) (words-lack b r (omega (arith, low))) in
    let all : Lacks b (seven_digits r.tick ++ spaced (row_words r)) =
    (apart 1000000, (apart 100000, (apart 10000, (apart 1000, (apart 100, (apart 10, (apart 1, words))))))) in
    rw (line-spaced r) all

line-heeded : (r : LogRow) → is_skipped (lists_line r) ≡ false
line-heeded r = ap is_skipped (line-spaced r) ∙ tick-heeded r.tick (spaced (row_words r))

-- ## The text

text-lines : (rs : List LogRow) → lines_of (lists_text rs) ≡ map lists_line rs ++ [] ∷ []
unfolding lists_text
text-lines [] = refl
text-lines (r ∷ rs) =
    lines-joined (lists_line r) (lists_text rs) (lacks-feed (lists_line r) (line-lacks 10 r (omega arith)))
    ∙ ap (λ (l : List ℕ). l ∷ lines_of (lists_text rs)) (lacks-return (lists_line r) (line-lacks 13 r (omega arith)))
    ∙ ap (λ (ls : List (List ℕ)). lists_line r ∷ ls) (text-lines rs)

rows-read : (rs : List LogRow) → AreListed rs → map row_of_lists (heeded (map lists_line rs ++ [] ∷ [])) ≡ map Some rs
rows-read [] is = refl
rows-read (r ∷ rs) is =
    ap (map row_of_lists) (heed-row (lists_line r) (map lists_line rs ++ [] ∷ []) (line-heeded r))
    ∙ ap (λ (o : Option LogRow). o ∷ map row_of_lists (heeded (map lists_line rs ++ [] ∷ []))) (line-read r is.0)
    ∙ ap (λ (os : List (Option LogRow)). Some r ∷ os) (rows-read rs is.1)

-- of no row any form is that of the text
form-read : (rs : List LogRow) → AreListed rs → (lines : List (List ℕ)) → lines ≡ map lists_line rs ++ [] ∷ [] → map (row_in (form_of lines)) (heeded lines) ≡ map Some rs
form-read [] is lines same = rw same refl
form-read (r ∷ rs) is lines same =
    let all : List (List ℕ) = map lists_line (r ∷ rs) ++ [] ∷ [] in
    let form : form_of all ≡ Lists = rw (line-heeded r, line-read r is.0) refl in
    ap (λ (ls : List (List ℕ)). map (row_in (form_of ls)) (heeded ls)) same
    ∙ ap (λ (f : RowForm). map (row_in f) (heeded all)) form ∙ rows-read (r ∷ rs) is

-- rows that rise are read back from their text by lists
pub lists-read : AreReadByLists
lists-read rs is rises fits =
    (the-rows (lists_text rs) rs).1 (fits, form-read rs is (lines_of (lists_text rs)) (text-lines rs), rises)

-- ## Rows one after the other

lists-append : (rs ss : List LogRow) → lists_text (rs ++ ss) ≡ lists_text rs ++ lists_text ss
unfolding lists_text
lists-append [] ss = refl
lists-append (r ∷ rs) ss = ap (λ (text : List ℕ). lists_line r ++ 10 ∷ text) (lists-append rs ss) ∙ sym (append_assoc (lists_line r) (10 ∷ lists_text rs) (lists_text ss))

lists-row : (r : LogRow) → lists_text (r ∷ []) ≡ lists_line r ++ 10 ∷ []
unfolding lists_text
lists-row r = refl

-- the text of rows one after the other, in either form
pub append-in : (form : RowForm) (rs ss : List LogRow) → text_in form (rs ++ ss) ≡ text_in form rs ++ text_in form ss
append-in Digits rs ss = text-append rs ss
append-in Lists rs ss = lists-append rs ss

-- the text of no row
pub none-in : (form : RowForm) → text_in form [] ≡ []
unfolding lists_text log_text
none-in Digits = refl
none-in Lists = refl

-- the text of one row
pub row-in : (form : RowForm) (r : LogRow) → text_in form (r ∷ []) ≡ line_in form r ++ 10 ∷ []
row-in Digits r = text-row r
row-in Lists r = lists-row r

-- ## Rows in the form in which they are written

-- a row with no input on but those for which digits have one
row-fits : (r : LogRow) → IsListed r → is_beyond_digits r.row ≡ false → IsRow r
row-fits r is e =
    let first = or_parts (leb 65536 r.row.vehicles.word) (leb 256 r.row.pedestrians.word || leb 16 r.row.preempts.word) e in
    let rest = or_parts (leb 256 r.row.pedestrians.word) (leb 16 r.row.preempts.word) first.1 in
    let v : r.row.vehicles.word < 65536 = leb-false 65536 r.row.vehicles.word first.0 in
    let p : r.row.pedestrians.word < 256 = leb-false 256 r.row.pedestrians.word rest.0 in
    let n : r.row.preempts.word < 16 = leb-false 16 r.row.preempts.word rest.1 in
    record { from_one = is.from_one; within = is.within; fit = record { vehicles = omega (arith, v); pedestrians = omega (arith, p); preempts = omega (arith, n) } }

rows-fit : (rs : List LogRow) → AreListed rs → list_any (λ r. is_beyond_digits r.row) rs ≡ false → AreRows rs
rows-fit [] is e = tt
rows-fit (r ∷ rs) is e =
    let both = or_parts (is_beyond_digits r.row) (list_any (λ s. is_beyond_digits s.row) rs) e in
    (row-fits r is.0 both.0, rows-fit rs is.1 both.1)

pub form-read-back : AreReadInTheirForm
form-read-back rs is rises fits = at (list_any (λ r. is_beyond_digits r.row) rs) refl fits
  where
    at : (b : Bool) → list_any (λ r. is_beyond_digits r.row) rs ≡ b → length (text_in (if b then Lists else Digits) rs) ≤ 67108864
        → log_of (text_in (if b then Lists else Digits) rs) ≡ Ok rs
    at true e small = lists-read rs is rises small
    at false e small = text-read rs (rows-fit rs is e) rises small
