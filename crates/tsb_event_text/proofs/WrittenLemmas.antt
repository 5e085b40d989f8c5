-- What is written of a time is read again.
use Rattle.std.proofs.Common.{replicate, ◌≡◌, ◌∙◌, ℕ, ◌+◌, ◌*◌, ◌/◌, ◌%◌, ◌<◌, ◌≤◌, true, leb, zero, suc, List, [], ◌∷◌, ◌++◌, length, take, drop, get_or, refl, sym, ap, ap₂, arith, Option, Some, codes, ltb}
use Rattle.std.proofs.lemmas.Bool.{le-leb, lt-ltb}
use Rattle.std.proofs.Common.{unsigned_abs, negsuc, ℤ, pos, ◌+ℤ◌, ◌≤ℤ◌, subst}
use Rattle.std.proofs.lemmas.Int.{by_lt_z}
use Rattle.jiff_core.specs.Calendar.{day_count, IsYear}
use Rattle.jiff_core.specs.Date.{epoch_day}
use Rattle.jiff_core.specs.declared.civil.date.Date.{Date}
use Rattle.jiff_core.proofs.CalendarLemmas.{day_count-lt_year, days_from_civil-day_count}
use Rattle.jiff_core.proofs.DateLemmas.{civil}
use Rattle.jiff_core.proofs.MarchLemmas.{day_count-early}
use Rattle.jiff_core.proofs.SignedLemmas.{signed_arith}
use Rattle.tsb_lines.specs.Words.{number_of, at_most}
use Rattle.tsb_lines.proofs.DigitLemmas.{digit-next}
use Rattle.tsb_event_text.specs.Times.{day_number, day_of, is_day, moment_at, moment_of, nano_of, second_of}
use Rattle.tsb_lines.specs.Digits.{digit}
use Rattle.tsb_event_text.specs.Written.{nine_digits, time_head}
use Rattle.tsb_event_text.proofs.TimeLemmas.{parts}

-- ## Digits

small : (n : ℕ) → n < 1000000000 → at_most 4294967295 (Some n) ≡ Some n
small n lt = let few : leb n 4294967295 ≡ true = le-leb n 4294967295 (omega (arith, lt)) in rw few refl

pub two-read : (t : ℕ) → t < 100 → number_of (digit t 10 ∷ digit t 1 ∷ []) ≡ Some t
two-read t lt =
    ap (at_most 4294967295)
    (digit-next t 0 (t / 10) 10 (digit t 1 ∷ []) (omega (arith, lt)) ∙ digit-next t (t / 10) t 1 [] (omega arith))
    ∙ small t (omega (arith, lt))

pub four-read : (t : ℕ) → t < 10000 → number_of (digit t 1000 ∷ digit t 100 ∷ digit t 10 ∷ digit t 1 ∷ []) ≡ Some t
four-read t lt =
    ap (at_most 4294967295)
    (digit-next t 0 (t / 1000) 1000 (digit t 100 ∷ digit t 10 ∷ digit t 1 ∷ []) (omega (arith, lt))
    ∙ digit-next t (t / 1000) (t / 100) 100 (digit t 10 ∷ digit t 1 ∷ []) (omega arith)
    ∙ digit-next t (t / 100) (t / 10) 10 (digit t 1 ∷ []) (omega arith)
    ∙ digit-next t (t / 10) t 1 [] (omega arith))
    ∙ small t (omega (arith, lt))

pub nine-read : (t : ℕ) → t < 1000000000 → number_of (nine_digits t) ≡ Some t
nine-read t lt =
    ap (at_most 4294967295)
    (digit-next t 0 (t / 100000000) 100000000 (digit t 10000000 ∷ digit t 1000000 ∷ digit t 100000 ∷ digit t 10000 ∷ digit t 1000 ∷ digit t 100 ∷ digit t 10 ∷ digit t 1 ∷ []) (omega (arith, lt))
    ∙ digit-next t (t / 100000000) (t / 10000000) 10000000 (digit t 1000000 ∷ digit t 100000 ∷ digit t 10000 ∷ digit t 1000 ∷ digit t 100 ∷ digit t 10 ∷ digit t 1 ∷ []) (omega arith)
    ∙ digit-next t (t / 10000000) (t / 1000000) 1000000 (digit t 100000 ∷ digit t 10000 ∷ digit t 1000 ∷ digit t 100 ∷ digit t 10 ∷ digit t 1 ∷ []) (omega arith)
    ∙ digit-next t (t / 1000000) (t / 100000) 100000 (digit t 10000 ∷ digit t 1000 ∷ digit t 100 ∷ digit t 10 ∷ digit t 1 ∷ []) (omega arith)
    ∙ digit-next t (t / 100000) (t / 10000) 10000 (digit t 1000 ∷ digit t 100 ∷ digit t 10 ∷ digit t 1 ∷ []) (omega arith)
    ∙ digit-next t (t / 10000) (t / 1000) 1000 (digit t 100 ∷ digit t 10 ∷ digit t 1 ∷ []) (omega arith)
    ∙ digit-next t (t / 1000) (t / 100) 100 (digit t 10 ∷ digit t 1 ∷ []) (omega arith)
    ∙ digit-next t (t / 100) (t / 10) 10 (digit t 1 ∷ []) (omega arith)
    ∙ digit-next t (t / 10) t 1 [] (omega arith))
    ∙ small t lt

-- ## The part of a second

-- digits without the zeros at their end, and those zeros
pub trim : (all : List ℕ) (k : ℕ) → ((j : ℕ) → k ≤ j → j < length all → get_or all j 0 ≡ 48) → take k all ++ drop k (replicate (length all) 48) ≡ all
trim [] zero f = refl
trim [] (suc k) f = refl
trim (x ∷ xs) zero f = ap₂ (λ (a : ℕ) (rest : List ℕ). a ∷ rest) (sym (f 0 (omega arith) (omega arith))) (trim xs zero (λ j le lt. f (suc j) (omega arith) (omega (arith, lt))))
trim (x ∷ xs) (suc k) f = ap (λ (rest : List ℕ). x ∷ rest) (trim xs k (λ j le lt. f (suc j) (omega (arith, le)) (omega (arith, lt))))

pub taken : (all : List ℕ) (k : ℕ) → k ≤ length all → length (take k all) ≡ k
taken [] zero le = refl
taken [] (suc k) le = absurd (omega (arith, le))
taken (x ∷ xs) zero le = refl
taken (x ∷ xs) (suc k) le = ap suc (taken xs k (omega (arith, le)))

pub nano-read : (ds all : List ℕ) (k nano : ℕ) → length ds ≡ k → 1 ≤ k → k ≤ 9 → ds ++ drop k (codes "000000000") ≡ all → number_of all ≡ Some nano
    → nano_of (46 ∷ ds) ≡ Some nano
nano-read ds all k nano is low high e read =
    let one : leb 1 (length ds) ≡ true = le-leb 1 (length ds) (omega (arith, is, low)) in
    let most : leb (length ds) 9 ≡ true = le-leb (length ds) 9 (omega (arith, is, high)) in
    let same : ds ++ drop (length ds) (codes "000000000") ≡ all = ap (λ (n : ℕ). ds ++ drop n (codes "000000000")) is ∙ e in
    rw (one, most, same) read

-- ## The time

day-read : (y m d days : ℕ) → is_day y m d ≡ true → day_number y m d ≡ days → day_of (Some y) (Some m) (Some d) ≡ Some days
day-read y m d days is number = rw is (ap (λ (n : ℕ). Some n) number)

second-read : (s : ℕ) → s < 86400 → second_of (Some (s / 3600)) (Some (s / 60 % 60)) (Some (s % 60)) ≡ Some s
second-read s lt =
    let hour : ltb (s / 3600) 24 ≡ true = lt-ltb (s / 3600) 24 (omega (arith, lt)) in
    let minute : ltb (s / 60 % 60) 60 ≡ true = lt-ltb (s / 60 % 60) 60 (omega arith) in
    let second : ltb (s % 60) 60 ≡ true = lt-ltb (s % 60) 60 (omega arith) in
    let same : s / 3600 * 3600 + s / 60 % 60 * 60 + s % 60 ≡ s = omega arith in
    rw (hour, minute, second) (ap (λ (n : ℕ). Some n) same)

pub head-read : (y m d s days : ℕ) (ds : List ℕ) → y < 10000 → m < 100 → d < 100 → s < 86400 → is_day y m d ≡ true → day_number y m d ≡ days
    → moment_of (time_head y m d s ++ ds) ≡ moment_at (Some days) (Some s) (nano_of (46 ∷ ds))
head-read y m d s days ds year month day lt is number =
    let dated : day_of (number_of (digit y 1000 ∷ digit y 100 ∷ digit y 10 ∷ digit y 1 ∷ [])) (number_of (digit m 10 ∷ digit m 1 ∷ [])) (number_of (digit d 10 ∷ digit d 1 ∷ [])) ≡ Some days =
    rw (four-read y year, two-read m month, two-read d day) (day-read y m d days is number) in
    let clocked : second_of (number_of (digit (s / 3600) 10 ∷ digit (s / 3600) 1 ∷ [])) (number_of (digit (s / 60 % 60) 10 ∷ digit (s / 60 % 60) 1 ∷ [])) (number_of (digit (s % 60) 10 ∷ digit (s % 60) 1 ∷ [])) ≡ Some s =
    rw (two-read (s / 3600) (omega (arith, lt)), two-read (s / 60 % 60) (omega arith), two-read (s % 60) (omega arith)) (second-read s lt) in
    parts (time_head y m d s ++ ds) (omega arith) refl ∙ ap₂ (λ (a b : Option ℕ). moment_at a b (nano_of (46 ∷ ds))) dated clocked

-- a time is read as the moment that it was written of
pub told : (head ds : List ℕ) (days second nano count nanos : ℕ)
    → ((rest : List ℕ) → moment_of (head ++ rest) ≡ moment_at (Some days) (Some second) (nano_of (46 ∷ rest)))
    → ds ≡ nine_digits nano → nano < 1000000000 → 1 ≤ count → count ≤ 9 → ((k : ℕ) → count ≤ k → k < 9 → get_or ds k 0 ≡ 48)
    → (days * 86400 + second) * 1000000000 + nano ≡ nanos
    → moment_of (head ++ take count ds) ≡ Some (record { nanos = nanos })
told head ds days second nano count nanos read is few low high zeros same =
    let all = nine_digits nano in
    let behind : (k : ℕ) → count ≤ k → k < 9 → get_or all k 0 ≡ 48 = subst (λ (xs : List ℕ). (k : ℕ) → count ≤ k → k < 9 → get_or xs k 0 ≡ 48) is zeros in
    read (take count ds)
    ∙ (ap (λ (xs : List ℕ). moment_at (Some days) (Some second) (nano_of (46 ∷ take count xs))) is
    ∙ (ap (moment_at (Some days) (Some second)) (nano-read (take count all) all count nano (taken all count high) low high (trim all count behind) (nine-read nano few))
    ∙ ap (λ (n : ℕ). Some (record { nanos = n })) same))

-- ## The date

-- a date on or after 0000-01-01 is of a year that is not negative
pub year-is : (d : Date) (days : ℕ) → 3652059 ≤ days → epoch_day d +ℤ pos 4371587 ≡ pos days → pos 0 ≤ℤ d.year
year-is d days le e = by_lt_z d.year (pos 0)
    (λ lt.
    let zero-count : day_count (pos 0) 1 1 ≡ 3652425 = day_count-early (pos 0) 9999 1 1 refl (omega arith) (omega arith) (omega arith) in
    let before : day_count d.year d.month d.day < day_count (pos 0) 1 1 = day_count-lt_year d.year d.month d.day (pos 0) 1 1 (civil d) (omega arith) lt in
    let count = days_from_civil-day_count d.year d.month d.day in
    absurd (omega (arith, signed_arith, zero-count, before, count, le, e)))
    (λ later. later)

-- a number that is not negative
pub as-pos : (z : ℤ) → pos 0 ≤ℤ z → pos (unsigned_abs z) ≡ z
as-pos (pos n) le = refl
as-pos (negsuc n) le = absurd (omega (arith, signed_arith, le))

pub year-small : (z : ℤ) → IsYear z → unsigned_abs z ≤ 9999
year-small (pos n) h = omega (arith, signed_arith, h)
year-small (negsuc n) h = omega (arith, signed_arith, h)
