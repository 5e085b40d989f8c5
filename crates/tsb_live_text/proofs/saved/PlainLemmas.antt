-- Plain bytes need no escape in a string of JSON.
use Rattle.std.proofs.Common.{◌≡◌, ◌∙◌, ℕ, ◌+◌, ◌/◌, ◌%◌, ◌<◌, ◌≤◌, ◌^◌, ◌&&◌, ◌==◌, if◌then◌else◌, Bool, true, false, not, eqb, leb, zero, suc, List, [], ◌∷◌, ◌++◌, codes, decimal, refl, sym, ap, arith, inl, inr, rules}
use Rattle.std.proofs.lemmas.Bool.{and_from, and_parts, le-leb, leb-true, le-ltb, not-true, ne_eqb, true≢false}
use Rattle.std.proofs.lemmas.Bool.Decides.{eqb_tells}
use Rattle.std.proofs.lemmas.Fmt.{decimal_by_steps}
use Rattle.std.proofs.lemmas.List.Folds.{list_all-append}
use Rattle.json.specs.Print.{escape, escape_byte}
use Rattle.tsb_lines.specs.Digits.{seven_digits}
use Rattle.tsb_text.specs.tsb_types.Sets.{has_detector, has_number}
use Rattle.tsb_text.specs.tsb_types.declared.limits.TheConstants.{PEDESTRIAN_DETECTORS, PREEMPTS, VEHICLE_DETECTORS}
use Rattle.tsb_text.specs.tsb_types.declared.number_set.NumberSet.{NumberSet}
use Rattle.tsb_log_text.specs.ListText.{item_text, items_behind, kind_text, later_items, line_in, lists_line, onto_runs, runs_from}
use Rattle.tsb_log_text.specs.LogText.{first_detectors, mark, marks, row_line, set_marks}
use Rattle.tsb_log_text.specs.declared.form.RowForm.{RowForm}
use Rattle.tsb_log_text.specs.declared.form.RowForm.TheVariants.{Digits, Lists}
use Rattle.tsb_log_text.specs.declared.log.LogRow.{LogRow}
use Rattle.tsb_text.specs.tsb_step.tsb_plan.Names.{name_of}
use Rattle.tsb_text.specs.tsb_step.tsb_plan.declared.object.Object.{Object}
use Rattle.std.proofs.Math.Nat.{mod-lt}
use Rattle.tsb_lines.specs.Digits.{digit}
use Rattle.tsb_command_text.specs.clock.ClockText.{date_text, time_text}
use Rattle.tsb_types.specs.declared.calendar.ClockDate.{ClockDate}
use Rattle.tsb_live_text.specs.saved.Saved.{number_word}
use Rattle.tsb_live_text.specs.saved.Says.{are_plain, is_plain}

-- ## Which bytes are plain

pub plain-join : (xs ys : List ℕ) → are_plain xs ≡ true → are_plain ys ≡ true → are_plain (xs ++ ys) ≡ true
plain-join xs ys p q = list_all-append is_plain xs ys ∙ and_from (are_plain xs) (are_plain ys) p q

-- from 48 to 57
digit-plain : (d : ℕ) → d < 10 → is_plain (48 + d) ≡ true
digit-plain d lt =
    let low : leb 32 (48 + d) ≡ true = le-leb 32 (48 + d) (omega arith) in
    let high : leb (48 + d) 126 ≡ true = le-leb (48 + d) 126 (omega (arith, lt)) in
    let quote : eqb (48 + d) 34 ≡ false = ne_eqb (48 + d) 34 (λ e. omega (arith, e)) in
    let slash : eqb (48 + d) 92 ≡ false = ne_eqb (48 + d) 92 (λ e. omega (arith, e, lt)) in
    rw (low, high, quote, slash) refl

one-plain : (b : ℕ) → is_plain b ≡ true → are_plain (b ∷ []) ≡ true
one-plain b p = and_from (is_plain b) true p refl

pub number-plain : (n : ℕ) → n < 2 ^ 64 → are_plain (decimal n) ≡ true
number-plain = decimal_by_steps (λ (n : ℕ) (ds : List ℕ). are_plain ds ≡ true) (λ n lt. one-plain (48 + n) (digit-plain n lt))
    (λ n ds le h. plain-join ds ((48 + n % 10) ∷ []) h (one-plain (48 + n % 10) (digit-plain (n % 10) (omega arith))))

pub name-plain : (o : Object) → are_plain (name_of o) ≡ true
name-plain o = search rules

pub word-plain : (n : ℕ) → n < 2 ^ 64 → are_plain (number_word n) ≡ true
word-plain n lt = plain-join (32 ∷ []) (decimal n) refl (number-plain n lt)

-- a date and a time of day
place-plain : (t unit : ℕ) → is_plain (digit t unit) ≡ true
place-plain t unit = digit-plain (t / unit % 10) (mod-lt (t / unit) (omega arith))

pub date-plain : (d : ClockDate) → are_plain (date_text d) ≡ true
date-plain d =
    rw (place-plain d.year 1000, place-plain d.year 100, place-plain d.year 10, place-plain d.year 1, place-plain d.month 10, place-plain d.month 1, place-plain d.day 10, place-plain d.day 1) refl

pub time-plain : (t : ℕ) → are_plain (32 ∷ time_text t) ≡ true
time-plain t =
    rw (place-plain (t / 36000) 10, place-plain (t / 36000) 1, place-plain (t / 600 % 60) 10, place-plain (t / 600 % 60) 1, place-plain (t / 10 % 60) 10, place-plain (t / 10 % 60) 1, place-plain (t % 10) 1) refl

-- ## The line of a row

tick-plain : (t : ℕ) → are_plain (seven_digits t) ≡ true
tick-plain t =
    rw (
      digit-plain (t / 1000000 % 10) (omega arith),
      digit-plain (t / 100000 % 10) (omega arith),
      digit-plain (t / 10000 % 10) (omega arith),
      digit-plain (t / 1000 % 10) (omega arith),
      digit-plain (t / 100 % 10) (omega arith),
      digit-plain (t / 10 % 10) (omega arith),
      digit-plain (t / 1 % 10) (omega arith),
    ) refl

mark-plain : (b : Bool) → is_plain (mark b) ≡ true
mark-plain true = refl
mark-plain false = refl

marks-plain : (n : ℕ) (on : ℕ → Bool) → are_plain (marks n on) ≡ true
marks-plain zero on = refl
marks-plain (suc n) on = and_from (is_plain (mark (on 0))) (are_plain (marks n (λ k. on (suc k)))) (mark-plain (on 0)) (marks-plain n (λ k. on (suc k)))

space : (xs ys : List ℕ) → are_plain xs ≡ true → are_plain ys ≡ true → are_plain (xs ++ 32 ∷ ys) ≡ true
space xs ys p q = plain-join xs (32 ∷ ys) p q

digits-plain : (r : LogRow) → are_plain (row_line r) ≡ true
unfolding row_line
digits-plain r =
    let vehicles : NumberSet = first_detectors r.row.vehicles in
    space (seven_digits r.tick) (set_marks 16 vehicles ++ 32 ∷ (set_marks 8 r.row.pedestrians ++ 32 ∷ set_marks 4 r.row.preempts)) (tick-plain r.tick)
    (space (set_marks 16 vehicles) (set_marks 8 r.row.pedestrians ++ 32 ∷ set_marks 4 r.row.preempts) (marks-plain 16 (λ k. has_number vehicles (suc k)))
    (space (set_marks 8 r.row.pedestrians) (set_marks 4 r.row.preempts) (marks-plain 8 (λ k. has_number r.row.pedestrians (suc k))) (marks-plain 4 (λ k. has_number r.row.preempts (suc k)))))

-- both ends of each run are numbers that fit
abbrev AreSmall : List (ℕ × ℕ) → Type 0
AreSmall [] = Unit {0}
AreSmall (r ∷ rs) = (r.0 < 2 ^ 64) × (r.1 < 2 ^ 64) × AreSmall rs

onto-small : (n : ℕ) (rs : List (ℕ × ℕ)) → n < 2 ^ 64 → AreSmall rs → AreSmall (onto_runs n rs)
onto-small n [] small h = (small, small, tt)
onto-small n (r ∷ rs) small h = go (r.0 == n + 1)
  where
    go : (b : Bool) → AreSmall (if b then (n, r.1) ∷ rs else (n, n) ∷ r ∷ rs)
    go true = (small, h.1, h.2)
    go false = (small, small, h)

runs-small : (n left : ℕ) (on : ℕ → Bool) → n + left ≤ 1000 → AreSmall (runs_from n left on)
runs-small n zero on le = tt
runs-small n (suc left) on le = go (on n) (runs-small (n + 1) left on (omega (arith, le)))
  where
    go : (b : Bool) → AreSmall (runs_from (n + 1) left on) → AreSmall (if b then onto_runs n (runs_from (n + 1) left on) else runs_from (n + 1) left on)
    go true rest = onto-small n (runs_from (n + 1) left on) (omega (arith, le)) rest
    go false rest = rest

item-plain : (r : ℕ × ℕ) → r.0 < 2 ^ 64 → r.1 < 2 ^ 64 → are_plain (item_text r) ≡ true
item-plain r first last = go (r.0 == r.1)
  where
    go : (b : Bool) → are_plain (if b then decimal r.0 else decimal r.0 ++ codes "-" ++ decimal r.1) ≡ true
    go true = number-plain r.0 first
    go false = plain-join (decimal r.0 ++ codes "-") (decimal r.1) (plain-join (decimal r.0) (codes "-") (number-plain r.0 first) refl) (number-plain r.1 last)

later-plain : (rs : List (ℕ × ℕ)) → AreSmall rs → are_plain (later_items rs) ≡ true
later-plain [] h = refl
later-plain (r ∷ rs) h =
    plain-join (codes "," ++ item_text r) (later_items rs) (plain-join (codes ",") (item_text r) refl (item-plain r h.0 h.1)) (later-plain rs h.2)

behind-plain : (before : List ℕ) (rs : List (ℕ × ℕ)) → are_plain before ≡ true → AreSmall rs → are_plain (items_behind before rs) ≡ true
behind-plain before [] plain h = refl
behind-plain before (r ∷ rs) plain h =
    plain-join (before ++ item_text r) (later_items rs) (plain-join before (item_text r) plain (item-plain r h.0 h.1)) (later-plain rs h.2)

kind-plain : (before : List ℕ) (most : ℕ) (on : ℕ → Bool) → are_plain before ≡ true → most ≤ 64 → are_plain (kind_text before most on) ≡ true
kind-plain before most on plain le = behind-plain before (runs_from 1 most on) plain (runs-small 1 most on (omega (arith, le)))

lists-plain : (r : LogRow) → are_plain (lists_line r) ≡ true
unfolding lists_line
lists-plain r =
    let vehicles : List ℕ = kind_text (codes " V") VEHICLE_DETECTORS (has_detector r.row.vehicles) in
    let pedestrians : List ℕ = kind_text (codes " P") PEDESTRIAN_DETECTORS (has_number r.row.pedestrians) in
    let preempts : List ℕ = kind_text (codes " E") PREEMPTS (has_number r.row.preempts) in
    plain-join (seven_digits r.tick) (vehicles ++ (pedestrians ++ preempts)) (tick-plain r.tick)
    (plain-join vehicles (pedestrians ++ preempts) (kind-plain (codes " V") VEHICLE_DETECTORS (has_detector r.row.vehicles) refl (omega arith))
    (plain-join pedestrians preempts (kind-plain (codes " P") PEDESTRIAN_DETECTORS (has_number r.row.pedestrians) refl (omega arith))
    (kind-plain (codes " E") PREEMPTS (has_number r.row.preempts) refl (omega arith))))

-- in either form
pub row-plain : (form : RowForm) (r : LogRow) → are_plain (line_in form r) ≡ true
row-plain Digits r = digits-plain r
row-plain Lists r = lists-plain r

-- ## They need no escape

-- what a plain byte is
pub record Plain (b : ℕ) : Type 0 where
  pub low : 32 ≤ b
  pub high : b ≤ 126
  pub quote : b ≡ 34 → ⊥
  pub slash : b ≡ 92 → ⊥

pub plain-is : (b : ℕ) → is_plain b ≡ true → Plain b
plain-is b p =
    let all = and_parts (leb 32 b && leb b 126 && not (eqb b 34)) (not (eqb b 92)) p in
    let first = and_parts (leb 32 b && leb b 126) (not (eqb b 34)) all.0 in
    let range = and_parts (leb 32 b) (leb b 126) first.0 in
    record {
      low = leb-true 32 b range.0;
      high = leb-true b 126 range.1;
      quote = λ e. apart b 34 (not-true (eqb b 34) first.1) e;
      slash = λ e. apart b 92 (not-true (eqb b 92) all.1) e;
    }
  where
    apart : (a b : ℕ) → eqb a b ≡ false → a ≡ b → ⊥
    apart a b differ same = elim (eqb_tells a b) [ inl z ↦ true≢false (sym z.0 ∙ differ) | inr off ↦ off.1 same ]

pub byte-escape : (b : ℕ) → Plain b → escape_byte b ≡ b ∷ []
unfolding escape_byte
byte-escape b p =
    let quote : eqb b 34 ≡ false = ne_eqb b 34 p.quote in
    let slash : eqb b 92 ≡ false = ne_eqb b 92 p.slash in
    let eight : eqb b 8 ≡ false = ne_eqb b 8 (λ e. omega (arith, e, p.low)) in
    let twelve : eqb b 12 ≡ false = ne_eqb b 12 (λ e. omega (arith, e, p.low)) in
    let feed : eqb b 10 ≡ false = ne_eqb b 10 (λ e. omega (arith, e, p.low)) in
    let return : eqb b 13 ≡ false = ne_eqb b 13 (λ e. omega (arith, e, p.low)) in
    let tab : eqb b 9 ≡ false = ne_eqb b 9 (λ e. omega (arith, e, p.low)) in
    let low = le-ltb b 32 p.low in
    rw (quote, slash, eight, twelve, feed, return, tab, low) refl

pub plain-escape : (bytes : List ℕ) → are_plain bytes ≡ true → escape bytes ≡ bytes
plain-escape [] p = refl
plain-escape (b ∷ bs) p =
    let both = and_parts (is_plain b) (are_plain bs) p in
    ap (λ (v : List ℕ). v ++ escape bs) (byte-escape b (plain-is b both.0)) ∙ ap (λ (v : List ℕ). b ∷ v) (plain-escape bs both.1)
