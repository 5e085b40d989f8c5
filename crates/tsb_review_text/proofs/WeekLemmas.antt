-- The table of a week, and how long a row of it is.
use Rattle.std.proofs.Common.{◌≡◌, ◌∙◌, ℕ, ◌+◌, ◌-◌, ◌/◌, ◌%◌, ◌<◌, ◌≤◌, ◌==◌, nat_le, nat_lt, Bool, true, false, if◌then◌else◌, List, [], ◌∷◌, ◌++◌, append_assoc, length, length-append, flat_map, codes, refl, sym, ap, arith}
use Rattle.std.proofs.lemmas.Bool.{lt-leb, true≢false}
use Rattle.std.specs.declared.result.Result.{Result}
use Rattle.std.specs.declared.result.Result.TheVariants.{Ok, Err}
use Rattle.std.specs.Io.KnownBytes.{Appends}
use Rattle.tsb_lines.proofs.StreamLemmas.{appends-more, appends-nothing}
use Rattle.tsb_lines.specs.declared.writes.WriteError.{WriteError}
use Rattle.tsb_lines.specs.Seen.{Seen}
use Rattle.tsb_lines.specs.Writes.{AppendsFront}
use Rattle.tsb_types.specs.Calendar.{date_after, date_in, days_before, days_of_years, month_of, month_up_to, year_of}
use Rattle.tsb_types.specs.declared.calendar.ClockDate.{ClockDate}
use Rattle.tsb_types.specs.declared.clock_time.TheConstants.{DAY}
use Rattle.tsb_types.specs.Lists.{run_from}
use Rattle.tsb_plan.specs.Plan.{Plan}
use Rattle.tsb_plan.specs.Schedule.{selected_by}
use Rattle.tsb_plan.specs.Acting.{in_force}
use Rattle.tsb_review_text.specs.Week.{day_plan_at, day_text, entry_at, moment_of, number_text, pattern_text, row_at, time_text, two, weekday_name}
use Rattle.tsb_review_text.specs.WeekPicture.{title_of}
use Rattle.tsb_review_text.specs.Written.{Wrote}
use Rattle.tsb_lines.proofs.StreamLemmas.{Went}

-- ## What has gone out

-- a text behind one that has gone out
pub wrote-behind : (r : Result (Unit {0}) WriteError) (a b c : Seen) (front rest : List ℕ) → Appends a.bytes b.bytes front → b.failed ≡ a.failed → Wrote r b c rest → Wrote r a c (front ++ rest)
wrote-behind (Ok u) a b c front rest gone well so = record {
  whole = appends-more a.bytes b.bytes c.bytes front rest gone so.whole;
  front = (
    front ++ so.front.0,
    so.front.1,
    appends-more a.bytes b.bytes c.bytes front so.front.0 gone so.front.2,
    ap (λ (ts : List ℕ). front ++ ts) so.front.3 ∙ sym (append_assoc front so.front.0 so.front.1),
  );
  blame = tt;
  well = so.well ∙ well;
}
wrote-behind (Err e) a b c front rest gone well so = record {
  whole = tt;
  front = (
    front ++ so.front.0,
    so.front.1,
    appends-more a.bytes b.bytes c.bytes front so.front.0 gone so.front.2,
    ap (λ (ts : List ℕ). front ++ ts) so.front.3 ∙ sym (append_assoc front so.front.0 so.front.1),
  );
  blame = so.blame;
  well = tt;
}

-- a text whose first bytes alone can have gone out
pub wrote-part : (e : WriteError) (a b : Seen) (front rest : List ℕ) → AppendsFront a.bytes b.bytes front → b.failed ≡ true → Wrote (Err e) a b (front ++ rest)
wrote-part e a b front rest gone blame = record {
  whole = tt;
  front = (
    gone.0,
    gone.1 ++ rest,
    gone.2,
    ap (λ (ts : List ℕ). ts ++ rest) gone.3 ∙ append_assoc gone.0 gone.1 rest,
  );
  blame = blame;
  well = tt;
}

-- nothing of a run from 0 has gone out yet
pub start-week : (f : ℕ → List ℕ) (a : Seen) (n : ℕ) → Went a a (flat_map f (run_from 0 n)) (flat_map f (run_from 0 n))
start-week f a n = record { gone = record { gone = []; grown = appends-nothing a.bytes; whole = refl }; well = refl }

-- ## The January of 2100

not-yet : (b : Bool) (m r : ℕ) → b ≡ false → r ≡ 1 → (if b then m else r) ≡ 1
not-yet true m r e first = absurd (true≢false e)
not-yet false m r e first = first

january : (x : ℕ) → x < 31 → month_of true x ≡ 1
january x small =
    let no : (d : ℕ) → 31 ≤ d → nat_le d x ≡ false = λ d from. lt-leb d x (omega (arith, from, small)) in
    not-yet (nat_le 335 x) 12 (month_up_to true x 10) (no 335 (omega arith)) (
    not-yet (nat_le 305 x) 11 (month_up_to true x 9) (no 305 (omega arith)) (
    not-yet (nat_le 274 x) 10 (month_up_to true x 8) (no 274 (omega arith)) (
    not-yet (nat_le 244 x) 9 (month_up_to true x 7) (no 244 (omega arith)) (
    not-yet (nat_le 213 x) 8 (month_up_to true x 6) (no 213 (omega arith)) (
    not-yet (nat_le 182 x) 7 (month_up_to true x 5) (no 182 (omega arith)) (
    not-yet (nat_le 152 x) 6 (month_up_to true x 4) (no 152 (omega arith)) (
    not-yet (nat_le 121 x) 5 (month_up_to true x 3) (no 121 (omega arith)) (
    not-yet (nat_le 91 x) 4 (month_up_to true x 2) (no 91 (omega arith)) (
    not-yet (nat_le 60 x) 3 (month_up_to true x 1) (no 60 (omega arith)) (
    not-yet (nat_le 31 x) 2 (month_up_to true x 0) (no 31 (omega arith)) refl))))))))))

abbrev pub date_on : ℕ → ℕ → ℕ → ClockDate
date_on y m d = record { year = y; month = m; day = d }

-- a day of it, from the number of the first on
pub new-century : (n day : ℕ) → 36525 ≤ n → n ≤ 36550 → day ≡ n - 36525 + 1 → date_on 2100 1 day ≡ date_after n
new-century n day from to is =
    let year : year_of n ≡ 100 = omega (arith, from, to) in
    let month : month_of true (n - 36525) ≡ 1 = january (n - 36525) (omega (arith, from, to)) in
    let first : day ≡ n - 36525 - 0 + 1 = omega (arith, is) in
    sym (ap (λ (y : ℕ). date_in y (n - days_of_years y)) year
    ∙ ap (λ (m : ℕ). date_on 2100 m (n - 36525 - days_before true m + 1)) month
    ∙ ap (λ (d : ℕ). date_on 2100 1 d) (sym first))

-- ## The length of a row

length-weekday : (days : ℕ) → length (weekday_name days) ≡ 3
length-weekday days = go (days % 7 == 0) (days % 7 == 1) (days % 7 == 2) (days % 7 == 3) (days % 7 == 4) (days % 7 == 5)
  where
    go : (a b c d e f : Bool) →
        length (if a then codes "Fri" else (if b then codes "Sat" else (if c then codes "Sun" else (if d then codes "Mon"
        else (if e then codes "Tue" else (if f then codes "Wed" else codes "Thu")))))) ≡ 3
    go true b c d e f = refl
    go false true c d e f = refl
    go false false true d e f = refl
    go false false false true e f = refl
    go false false false false true f = refl
    go false false false false false true = refl
    go false false false false false false = refl

length-day : (m : ℕ) → length (day_text m) ≡ 14
length-day m = omega (arith, length-weekday (m / DAY))

length-number : (n : ℕ) → length (number_text n) ≡ 2
length-number n = go (n == 0) (nat_lt n 10)
  where
    go : (z b : Bool) → length (if z then codes " -" else (if b then 32 ∷ (48 + n / 1 % 10) ∷ [] else two n)) ≡ 2
    go true b = refl
    go false true = refl
    go false false = refl

length-pattern : (n : ℕ) → length (pattern_text n) ≡ 9
length-pattern n = go (n == 0)
  where
    go : (z : Bool) → length (if z then codes "     free" else codes "       " ++ number_text n) ≡ 9
    go true = refl
    go false = length-append (codes "       ") (number_text n) ∙ ap (λ (k : ℕ). 7 + k) (length-number n)

-- a label and the title of the picture fit a row
pub day-fits : (m : ℕ) → length (day_text m) ≤ 64
day-fits m = omega (arith, length-day m)

pub title-fits : (first : ℕ) → length (title_of first) ≤ 64
title-fits first = omega (arith, length-day (moment_of first 0))

length-time : (m : ℕ) → length (time_text m) ≡ 20
length-time m =
    let clock : List ℕ = 32 ∷ (two (m % DAY / 600 / 60) ++ (58 ∷ two (m % DAY / 600 % 60))) in
    omega (arith, length-append (day_text m) clock, length-day m)

pub row-fits : (plan : Plan) (m : ℕ) → length (row_at plan m) ≤ 64
row-fits plan m =
    let action : List ℕ = number_text (in_force plan m) in
    let pattern : List ℕ = pattern_text (selected_by plan (in_force plan m)) in
    let entry : List ℕ = number_text (entry_at plan m) in
    let runs : List ℕ = number_text (day_plan_at plan (entry_at plan m)) in
    let behind : List ℕ = codes "     " ++ (entry ++ (codes "        " ++ (runs ++ codes "\n"))) in
    omega (
      arith,
      length-time m,
      length-number (in_force plan m),
      length-pattern (selected_by plan (in_force plan m)),
      length-number (entry_at plan m),
      length-number (day_plan_at plan (entry_at plan m)),
      length-append (time_text m) (codes "       " ++ (action ++ (pattern ++ behind))),
      length-append action (pattern ++ behind),
      length-append pattern behind,
      length-append entry (codes "        " ++ (runs ++ codes "\n")),
      length-append runs (codes "\n"),
    )
