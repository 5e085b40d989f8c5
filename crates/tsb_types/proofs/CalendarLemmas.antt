-- The date of a day is one that there is, and its number is that of the day.
use Rattle.std.proofs.Common.{zero, suc, ◌≡◌, ℕ, ◌+◌, ◌-◌, ◌*◌, ◌/◌, ◌%◌, ◌<◌, ◌≤◌, ◌==◌, ◌⊎◌, nat_le, nat_lt, Bool, true, false, ◌&&◌, if◌then◌else◌, refl, sym, ap, subst, ◌∙◌, arith, inl, inr}
use Rattle.std.proofs.Math.Nat.{div-add-mod'}
use Rattle.std.proofs.lemmas.Bool.{and_parts, and_from, cases_eq, leb-true, le-leb}
use Rattle.std.proofs.lemmas.Bool.Decides.{nat_tests}
use Rattle.std.proofs.lemmas.Nat.{div-mul-add, mod-mul-add}
use Rattle.tsb_types.specs.declared.clock_time.TheConstants.{FIRST_DAY, LAST_DAY}
use Rattle.tsb_types.specs.Calendar.{is_leap, common_days_before, days_before, days_of_years, is_day, day_number, is_date, month_up_to, month_of, year_of, date_in, date_after}
use Rattle.tsb_types.specs.declared.calendar.ClockDate.{ClockDate}

-- ## Years

-- the days of a year
abbrev length_of : Bool → ℕ
length_of leap = if leap then 366 else 365

-- day n is one of year y
record IsIn (n y : ℕ) : Type 0 where
  low : days_of_years y ≤ n
  high : n - days_of_years y < length_of (is_leap y)

is_in : (n y d : ℕ) (leap : Bool) → is_leap y ≡ leap → days_of_years y ≡ d → d ≤ n → n - d < length_of leap → IsIn n y
is_in n y d leap its days low high = record {
  low = subst (λ (k : ℕ). k ≤ n) (sym days) low;
  high = subst (λ (b : Bool). n - days_of_years y < length_of b) (sym its) (subst (λ (k : ℕ). n - k < length_of leap) (sym days) high);
}

-- a year of four: the first of them is longer by a day
leap_is : (a b : ℕ) → b < 4 → is_leap (a * 4 + b) ≡ (b == 0)
leap_is a b few = ap (λ (k : ℕ). k == 0) (mod-mul-add a 4 b few)

days_are : (a b c r : ℕ) → a * 4 + b + 3 ≡ c * 4 + r → r < 4 → days_of_years (a * 4 + b) ≡ 365 * (a * 4 + b) + c
days_are a b c r e few = ap (λ (k : ℕ). 365 * (a * 4 + b) + k / 4) e ∙ ap (λ (k : ℕ). 365 * (a * 4 + b) + k) (div-mul-add c 4 r few)

of_four : (n a b : ℕ) → b < 4 → 1461 * (a * 4 + b) ≤ 4 * n → 4 * n < 1461 * (a * 4 + b + 1) → IsIn n (a * 4 + b)
of_four n a zero few low high =
    is_in n (a * 4 + 0) (1461 * a) true (leap_is a 0 few) (days_are a 0 a 3 (omega arith) (omega arith) ∙ omega arith) (omega (arith, low)) (omega (arith, high))
of_four n a (suc zero) few low high =
    is_in n (a * 4 + 1) (1461 * a + 366) false (leap_is a 1 few) (days_are a 1 (a + 1) 0 (omega arith) (omega arith) ∙ omega arith) (omega (arith, low)) (omega (arith, high))
of_four n a (suc (suc zero)) few low high =
    is_in n (a * 4 + 2) (1461 * a + 731) false (leap_is a 2 few) (days_are a 2 (a + 1) 1 (omega arith) (omega arith) ∙ omega arith) (omega (arith, low)) (omega (arith, high))
of_four n a (suc (suc (suc zero))) few low high =
    is_in n (a * 4 + 3) (1461 * a + 1096) false (leap_is a 3 few) (days_are a 3 (a + 1) 2 (omega arith) (omega arith) ∙ omega arith) (omega (arith, low)) (omega (arith, high))
of_four n a (suc (suc (suc (suc b)))) few low high = absurd (omega (arith, few))

year_is_in : (n : ℕ) → IsIn n (year_of n)
year_is_in n =
    let y : ℕ = year_of n in
    let parts : y / 4 * 4 + y % 4 ≡ y = div-add-mod' y 4 in
    let low : 1461 * y ≤ 4 * n = omega arith in
    let high : 4 * n < 1461 * (y + 1) = omega arith in
    let rest : y % 4 < 4 = omega arith in
    subst (λ (k : ℕ). IsIn n k) parts (of_four n (y / 4) (y % 4) rest (omega (arith, parts, low)) (omega (arith, parts, high)))

-- ## Days of a year, each of them tried

-- day x of a year is in the month that is found
abbrev fits : Bool → ℕ → Bool
fits leap x =
    (nat_le 1 (month_of leap x) && nat_le (month_of leap x) 12)
    && ((nat_le (days_before leap (month_of leap x)) x && nat_lt x (days_before leap (month_of leap x + 1))) && nat_le (x + 1) (days_before leap (month_of leap x) + 31))

all_fit : Bool → ℕ → Bool
all_fit leap zero = true
all_fit leap (suc n) = fits leap n && all_fit leap n

they_fit : all_fit true 366 && all_fit false 365 ≡ true
unfolding all_fit
they_fit = refl

fits_of : (leap : Bool) (n x : ℕ) → all_fit leap n ≡ true → x < n → fits leap x ≡ true
unfolding all_fit
fits_of leap zero x all less = absurd (omega (arith, less))
fits_of leap (suc n) x all less =
    let both = and_parts (fits leap n) (all_fit leap n) all in
    elim (cases_eq x n) [
      | inl same ↦ ap (fits leap) same ∙ both.0
      | inr other ↦ fits_of leap n x both.1 (omega (arith, less, other))
    ]

fits_in : (leap : Bool) (x : ℕ) → x < length_of leap → fits leap x ≡ true
fits_in true x less = fits_of true 366 x (and_parts (all_fit true 366) (all_fit false 365) they_fit).0 less
fits_in false x less = fits_of false 365 x (and_parts (all_fit true 366) (all_fit false 365) they_fit).1 less

record Fits (leap : Bool) (x : ℕ) : Type 0 where
  from_one : 1 ≤ month_of leap x
  within : month_of leap x ≤ 12
  low : days_before leap (month_of leap x) ≤ x
  high : x + 1 ≤ days_before leap (month_of leap x + 1)
  short : x + 1 ≤ days_before leap (month_of leap x) + 31

fitted : (leap : Bool) (x : ℕ) → x < length_of leap → Fits leap x
fitted leap x less =
    let m : ℕ = month_of leap x in
    let outer = and_parts (nat_le 1 m && nat_le m 12) ((nat_le (days_before leap m) x && nat_lt x (days_before leap (m + 1))) && nat_le (x + 1) (days_before leap m + 31)) (fits_in leap x less) in
    let month = and_parts (nat_le 1 m) (nat_le m 12) outer.0 in
    let inner = and_parts (nat_le (days_before leap m) x && nat_lt x (days_before leap (m + 1))) (nat_le (x + 1) (days_before leap m + 31)) outer.1 in
    let ends = and_parts (nat_le (days_before leap m) x) (nat_lt x (days_before leap (m + 1))) inner.0 in
    record {
      from_one = leb-true 1 m month.0;
      within = leb-true m 12 month.1;
      low = leb-true (days_before leap m) x ends.0;
      high = lt_of x (days_before leap (m + 1)) ends.1;
      short = leb-true (x + 1) (days_before leap m + 31) inner.1;
    }
  where
    lt_of : (a b : ℕ) → nat_lt a b ≡ true → a + 1 ≤ b
    lt_of a b h = grind (arith, nat_tests, h)

-- ## Months, one after the other

-- with the next month, which has begun by day x or has not
pub month_on : (leap : Bool) (x next m b new : ℕ) → 2 ≤ next → m ≡ month_up_to leap x (next - 2) → b ≡ days_before leap next →
    ((b ≤ x) × (new ≡ next)) ⊎ ((x < b) × (new ≡ m)) → new ≡ month_up_to leap x (next + 1 - 2)
month_on leap x next m b new from at days which =
    let k : ℕ = next - 2 in
    let after : next + 1 - 2 ≡ suc k = omega (arith, from) in
    let this : k + 2 ≡ next = omega (arith, from) in
    let begins : days_before leap (k + 2) ≡ b = ap (days_before leap) this ∙ sym days in
    elim which [
      | inl it ↦
          let begun : b ≤ x = it.0 in
          it.1 ∙ sym this
          ∙ sym (ap (λ (t : Bool). if t then k + 2 else month_up_to leap x k) (ap (λ (d : ℕ). nat_le d x) begins ∙ le-leb b x begun))
          ∙ sym (ap (month_up_to leap x) after)
      | inr it ↦
          it.1 ∙ at
          ∙ sym (ap (λ (t : Bool). if t then k + 2 else month_up_to leap x k) (ap (λ (d : ℕ). nat_le d x) begins ∙ not_le b x it.0))
          ∙ sym (ap (month_up_to leap x) after)
    ]
  where
    not_le : (a b : ℕ) → b < a → nat_le a b ≡ false
    not_le a b h = grind (arith, nat_tests, h)

-- ## Numbers of dates

if_most : (b : Bool) (k r : ℕ) → k ≤ 365 → r ≤ 365 → (if b then k else r) ≤ 365
if_most true k r one other = one
if_most false k r one other = other

common_most : (m : ℕ) → common_days_before m ≤ 365
common_most m =
    if_most (m == 1) _ _ (omega arith)
    (if_most (m == 2) _ _ (omega arith)
    (if_most (m == 3) _ _ (omega arith)
    (if_most (m == 4) _ _ (omega arith)
    (if_most (m == 5) _ _ (omega arith)
    (if_most (m == 6) _ _ (omega arith)
    (if_most (m == 7) _ _ (omega arith)
    (if_most (m == 8) _ _ (omega arith)
    (if_most (m == 9) _ _ (omega arith)
    (if_most (m == 10) _ _ (omega arith)
    (if_most (m == 11) _ _ (omega arith)
    (if_most (m == 12) _ _ (omega arith) (omega arith))))))))))))

before_most : (leap : Bool) (m : ℕ) → days_before leap m ≤ length_of leap
before_most true m = go (nat_lt 2 m)
  where
    go : (b : Bool) → (if true && b then common_days_before m + 1 else common_days_before m) ≤ 366
    go true = let most = common_most m in omega (arith, most)
    go false = let most = common_most m in omega (arith, most)
before_most false m = common_most m

-- what a date is
pub record IsBounded (y m d : ℕ) : Type 0 where
  pub year : y < 100
  pub from_one : 1 ≤ d
  pub within : d ≤ 31
  pub last : days_before (is_leap y) m + d ≤ length_of (is_leap y)

pub bounded : (y m d : ℕ) → is_day y m d ≡ true → IsBounded y m d
bounded y m d h = go ((nat_lt y 100 && nat_le 1 m) && (nat_le m 12 && (nat_le 1 d && nat_le d 31))) refl h
  where
    go : (b : Bool) → ((nat_lt y 100 && nat_le 1 m) && (nat_le m 12 && (nat_le 1 d && nat_le d 31))) ≡ b →
        (if b then nat_le (days_before (is_leap y) m + d) (days_before (is_leap y) (m + 1)) else false) ≡ true → IsBounded y m d
    go false e k = cc
    go true e k =
        let both = and_parts (nat_lt y 100 && nat_le 1 m) (nat_le m 12 && (nat_le 1 d && nat_le d 31)) e in
        let year = and_parts (nat_lt y 100) (nat_le 1 m) both.0 in
        let rest = and_parts (nat_le m 12) (nat_le 1 d && nat_le d 31) both.1 in
        let day = and_parts (nat_le 1 d) (nat_le d 31) rest.1 in
        let end : days_before (is_leap y) m + d ≤ days_before (is_leap y) (m + 1) = leb-true _ _ k in
        let most : days_before (is_leap y) (m + 1) ≤ length_of (is_leap y) = before_most (is_leap y) (m + 1) in
        record {
          year = below_of y 100 year.0;
          from_one = leb-true 1 d day.0;
          within = leb-true d 31 day.1;
          last = omega (arith, end, most);
        }
      where
        below_of : (a b : ℕ) → nat_lt a b ≡ true → a < b
        below_of a b h = grind (arith, nat_tests, h)

-- the number of a date is that of a day to which a clock is set
pub numbered : (y m d : ℕ) → is_day y m d ≡ true → (FIRST_DAY ≤ day_number y m d) × (day_number y m d ≤ LAST_DAY)
numbered y m d h =
    let it : IsBounded y m d = bounded y m d h in
    let year : y < 100 = it.year in
    let one : 1 ≤ d = it.from_one in
    let last : days_before (is_leap y) m + d ≤ length_of (is_leap y) = it.last in
    elim (cases_eq y 99) [
      | inl end ↦
          let short : length_of (is_leap y) ≡ 365 = ap (λ k. length_of (is_leap k)) end in
          (omega arith, omega (arith, year, one, last, short, end))
      | inr other ↦
          let long : length_of (is_leap y) ≤ 366 = longest (is_leap y) in
          (omega arith, omega (arith, year, one, last, long, other))
    ]
  where
    longest : (b : Bool) → length_of b ≤ 366
    longest true = omega arith
    longest false = omega arith

-- ## Both

-- the date n days after 2000-01-01
pub record IsDated (n : ℕ) (d : ClockDate) : Type 0 where
  pub there : is_date d ≡ true
  pub number : day_number (d.year - 2000) d.month d.day ≡ FIRST_DAY + n
  pub year : d.year < 2100
  pub month : d.month ≤ 12
  pub day : d.day ≤ 31

pub dated : (n : ℕ) → n < 36525 → IsDated n (date_after n)
dated n within = record {
  there = is_there;
  number = ap (λ (k : ℕ). day_number k m d) counted ∙ sum;
  year = omega (arith, few);
  month = it.within;
  day = omega (arith, last, first);
}
  where
    y : ℕ
    y = year_of n

    leap : Bool
    leap = is_leap y

    few : y < 100
    few = omega (arith, within)

    of_year : IsIn n y
    of_year = year_is_in n

    x : ℕ
    x = n - days_of_years y

    it : Fits leap x
    it = fitted leap x of_year.high

    m : ℕ
    m = month_of leap x

    d : ℕ
    d = x - days_before leap m + 1

    first : days_before leap m ≤ x
    first = it.low

    last : x + 1 ≤ days_before leap m + 31
    last = it.short

    counted : 2000 + y - 2000 ≡ y
    counted = omega arith

    sum : FIRST_DAY + days_of_years y + days_before leap m + (d - 1) ≡ FIRST_DAY + n
    sum = let begun : days_of_years y ≤ n = of_year.low in omega (arith, first, begun)

    ends : days_before leap m + d ≤ days_before leap (m + 1)
    ends = let high : x + 1 ≤ days_before leap (m + 1) = it.high in omega (arith, first, high)

    there_of : (a b c : Bool) → a ≡ true → b ≡ true → c ≡ true → (if a && b then c else false) ≡ true
    there_of a b c e f g = rw (e, f) g

    is_day_so : is_day y m d ≡ true
    is_day_so =
        there_of (nat_lt y 100 && nat_le 1 m) (nat_le m 12 && (nat_le 1 d && nat_le d 31)) (nat_le (days_before leap m + d) (days_before leap (m + 1)))
        (and_from (nat_lt y 100) (nat_le 1 m) (grind (arith, nat_tests, few)) (le-leb 1 m it.from_one))
        (and_from (nat_le m 12) (nat_le 1 d && nat_le d 31) (le-leb m 12 it.within)
        (and_from (nat_le 1 d) (nat_le d 31) (le-leb 1 d (omega arith)) (le-leb d 31 (omega (arith, last, first)))))
        (le-leb (days_before leap m + d) (days_before leap (m + 1)) ends)

    is_there : is_date (date_in y x) ≡ true
    is_there = and_from (nat_le 2000 (2000 + y)) (is_day (2000 + y - 2000) m d) (le-leb 2000 (2000 + y) (omega arith)) (ap (λ (k : ℕ). is_day k m d) counted ∙ is_day_so)
