-- What is written is read again.
use Rattle.std.proofs.Common.{◌≡◌, ℕ, ◌+◌, ◌-◌, ◌*◌, ◌/◌, ◌%◌, ◌<◌, ◌≤◌, ◌==◌, nat_le, nat_lt, Bool, true, false, ◌&&◌, ◌||◌, if◌then◌else◌, List, [], ◌∷◌, length, Option, Some, None, leb, refl, sym, ap, ◌∙◌, arith}
use Rattle.std.proofs.lemmas.Bool.{and_from, and_parts, le-leb}
use Rattle.std.proofs.lemmas.Bool.Decides.{nat_tests}
use Rattle.tsb_event_text.proofs.WrittenLemmas.{two-read, four-read}
use Rattle.tsb_lines.proofs.DigitLemmas.{digit-next}
use Rattle.tsb_lines.specs.Digits.{digit}
use Rattle.tsb_lines.specs.Words.{at_most, number_of}
use Rattle.tsb_types.specs.declared.clock_time.TheConstants.{DAY, FIRST_DAY, LAST_DAY, FIRST_MOMENT, END_OF_DAYS}
use Rattle.tsb_types.specs.Calendar.{day_number, date_after, is_date, is_day}
use Rattle.tsb_command_text.specs.clock.ClockText.{clock_at, clock_of, date_in_word, date_of, date_of_three, date_text, has, part, tenth_of, time_in_word, time_of_four, time_text}
use Rattle.tsb_types.specs.declared.calendar.ClockDate.{ClockDate}
use Rattle.tsb_types.proofs.CalendarLemmas.{IsDated, dated, numbered}

-- ## Digits

one-read : (t : ℕ) → t < 10 → number_of (digit t 1 ∷ []) ≡ Some t
one-read t lt =
    let few : leb t 4294967295 ≡ true = le-leb t 4294967295 (omega (arith, lt)) in
    ap (at_most 4294967295) (digit-next t 0 t 1 [] (omega (arith, lt))) ∙ rw few refl

-- ## The words

date-read : (n : ℕ) (d : ClockDate) → IsDated n d → date_in_word (date_text d) ≡ Some d
date-read n d it =
    ap (λ (o : Option ℕ). date_of_three o (number_of (digit d.month 10 ∷ digit d.month 1 ∷ [])) (number_of (digit d.day 10 ∷ digit d.day 1 ∷ []))) (four-read d.year (let few = it.year in omega (arith, few)))
    ∙ ap (λ (o : Option ℕ). date_of_three (Some d.year) o (number_of (digit d.day 10 ∷ digit d.day 1 ∷ []))) (two-read d.month (let few = it.month in omega (arith, few)))
    ∙ ap (λ (o : Option ℕ). date_of_three (Some d.year) (Some d.month) o) (two-read d.day (let few = it.day in omega (arith, few)))
    ∙ ap (λ (b : Bool). if b then Some d else None) it.there

time-read : (t : ℕ) → t < DAY → time_in_word (time_text t) ≡ Some t
time-read t below =
    let hour : ℕ = t / 36000 in
    let minute : ℕ = t / 600 % 60 in
    let second : ℕ = t / 10 % 60 in
    let tenth : ℕ = t % 10 in
    let all : ((hour * 60 + minute) * 60 + second) * 10 + tenth ≡ t = omega arith in
    ap (λ (o : Option ℕ). time_of_four o (number_of (digit minute 10 ∷ digit minute 1 ∷ [])) (number_of (digit second 10 ∷ digit second 1 ∷ [])) (number_of (digit tenth 1 ∷ [])))
    (two-read hour (omega (arith, below)))
    ∙ ap (λ (o : Option ℕ). time_of_four (Some hour) o (number_of (digit second 10 ∷ digit second 1 ∷ [])) (number_of (digit tenth 1 ∷ []))) (two-read minute (omega arith))
    ∙ ap (λ (o : Option ℕ). time_of_four (Some hour) (Some minute) o (number_of (digit tenth 1 ∷ []))) (two-read second (omega arith))
    ∙ ap (λ (o : Option ℕ). time_of_four (Some hour) (Some minute) (Some second) o) (one-read tenth (omega arith))
    ∙ ap (λ (b : Bool). if b then Some (((hour * 60 + minute) * 60 + second) * 10 + tenth) else None)
    (and_from (nat_lt hour 24) (nat_lt minute 60 && (nat_lt second 60 && nat_lt tenth 10)) (less hour 24 (omega (arith, below)))
    (and_from (nat_lt minute 60) (nat_lt second 60 && nat_lt tenth 10) (less minute 60 (omega arith))
    (and_from (nat_lt second 60) (nat_lt tenth 10) (less second 60 (omega arith)) (less tenth 10 (omega arith)))))
    ∙ ap Some all
  where
    less : (a b : ℕ) → a < b → nat_lt a b ≡ true
    less a b h = grind (arith, nat_tests, h)

-- ## Both

pub clock-read : (time : ℕ) → FIRST_MOMENT ≤ time → time < END_OF_DAYS → clock_of (date_text (date_of time)) (time_text (time % DAY)) ≡ Some time
clock-read time from before =
    let n : ℕ = time / DAY - FIRST_DAY in
    let within : n < 36525 = omega (arith, before) in
    let it : IsDated n (date_after n) = dated n within in
    let below : time % DAY < DAY = omega arith in
    let late : FIRST_DAY ≤ time / DAY = omega (arith, from) in
    let whole : (FIRST_DAY + n) * DAY + time % DAY ≡ time = omega (arith, late) in
    ap (λ (o : Option ClockDate). clock_at o (time_in_word (time_text (time % DAY)))) (date-read n (date_after n) it)
    ∙ ap (λ (o : Option ℕ). clock_at (Some (date_after n)) o) (time-read (time % DAY) below)
    ∙ ap (λ (k : ℕ). Some (k * DAY + time % DAY)) it.number
    ∙ ap Some whole

-- ## What is read

-- a date that is read is one that there is
date-there : (w : List ℕ) (d : ClockDate) → date_in_word w ≡ Some d → is_date d ≡ true
date-there w d e = go (length w == 10 && (has 45 4 w && has 45 7 w)) e
  where
    three : (y m k : Option ℕ) → date_of_three y m k ≡ Some d → is_date d ≡ true
    three None m k h = cc
    three (Some y) None k h = cc
    three (Some y) (Some m) None h = cc
    three (Some y) (Some m) (Some k) h = test (is_date made) refl h
      where
        made : ClockDate
        made = record { year = y; month = m; day = k }

        test : (b : Bool) → is_date made ≡ b → (if b then Some made else None) ≡ Some d → is_date d ≡ true
        test true is f = let same : made ≡ d = cc in ap is_date (sym same) ∙ is
        test false is f = cc

    go : (b : Bool) → (if b then date_of_three (number_of (part 0 4 w)) (number_of (part 5 2 w)) (number_of (part 8 2 w)) else None) ≡ Some d → is_date d ≡ true
    go true h = three (number_of (part 0 4 w)) (number_of (part 5 2 w)) (number_of (part 8 2 w)) h
    go false h = cc

-- and a time of day one of a day
time-below : (w : List ℕ) (t : ℕ) → time_in_word w ≡ Some t → t < DAY
time-below w t e = go ((length w == 8 || length w == 10) && (has 58 2 w && has 58 5 w)) e
  where
    four : (h m s k : Option ℕ) → time_of_four h m s k ≡ Some t → t < DAY
    four None m s k f = cc
    four (Some h) None s k f = cc
    four (Some h) (Some m) None k f = cc
    four (Some h) (Some m) (Some s) None f = cc
    four (Some h) (Some m) (Some s) (Some k) f = test (nat_lt h 24 && (nat_lt m 60 && (nat_lt s 60 && nat_lt k 10))) refl f
      where
        test : (b : Bool) → (nat_lt h 24 && (nat_lt m 60 && (nat_lt s 60 && nat_lt k 10))) ≡ b →
            (if b then Some (((h * 60 + m) * 60 + s) * 10 + k) else None) ≡ Some t → t < DAY
        test false is g = cc
        test true is g =
            let one = and_parts (nat_lt h 24) (nat_lt m 60 && (nat_lt s 60 && nat_lt k 10)) is in
            let two = and_parts (nat_lt m 60) (nat_lt s 60 && nat_lt k 10) one.1 in
            let three = and_parts (nat_lt s 60) (nat_lt k 10) two.1 in
            let hour : h < 24 = below_of h 24 one.0 in
            let minute : m < 60 = below_of m 60 two.0 in
            let second : s < 60 = below_of s 60 three.0 in
            let tenth : k < 10 = below_of k 10 three.1 in
            let same : ((h * 60 + m) * 60 + s) * 10 + k ≡ t = cc in
            omega (arith, hour, minute, second, tenth, same)
          where
            below_of : (a b : ℕ) → nat_lt a b ≡ true → a < b
            below_of a b h = grind (arith, nat_tests, h)

    go : (b : Bool) → (if b then time_of_four (number_of (part 0 2 w)) (number_of (part 3 2 w)) (number_of (part 6 2 w)) (tenth_of w) else None) ≡ Some t → t < DAY
    go true h = four (number_of (part 0 2 w)) (number_of (part 3 2 w)) (number_of (part 6 2 w)) (tenth_of w) h
    go false h = cc

-- so what two words are is a time that a clock can be set to
pub clock-ranged : (x y : List ℕ) (time : ℕ) → clock_of x y ≡ Some time → (FIRST_MOMENT ≤ time) × (time < END_OF_DAYS)
clock-ranged x y time e = go (date_in_word x) (time_in_word y) refl refl e
  where
    go : (o : Option ClockDate) (p : Option ℕ) → date_in_word x ≡ o → time_in_word y ≡ p → clock_at o p ≡ Some time → (FIRST_MOMENT ≤ time) × (time < END_OF_DAYS)
    go None p f g h = cc
    go (Some d) None f g h = cc
    go (Some d) (Some t) f g h =
        let is = and_parts (nat_le 2000 d.year) (is_day (d.year - 2000) d.month d.day) (date-there x d f) in
        let number = numbered (d.year - 2000) d.month d.day is.1 in
        let low : FIRST_DAY ≤ day_number (d.year - 2000) d.month d.day = number.0 in
        let high : day_number (d.year - 2000) d.month d.day ≤ LAST_DAY = number.1 in
        let below : t < DAY = time-below y t g in
        let same : day_number (d.year - 2000) d.month d.day * DAY + t ≡ time = cc in
        (omega (arith, low, same), omega (arith, high, below, same))
