-- What the calendar gives, by computing, and a definition with one mistake.
use Rattle.std.specs.Prelude.{◌≡◌, ℕ, ◌-◌, [], ◌∷◌, Some, None, map, codes, refl, false}
use Rattle.tsb_types.specs.Calendar.{days_of_years, date_after, month_of}
use Rattle.tsb_command_text.specs.clock.ClockText.{clock_of, date_text}

-- 2028-02-29 is 10,294 days after 1999-12-24, and 10,286 after 2000-01-01
reads_a_leap_day : clock_of (codes "2028-02-29") (codes "23:59:59.9") ≡ Some 8894879999
reads_a_leap_day = refl

writes_it : date_text (date_after 10286) ≡ codes "2028-02-29"
writes_it = refl

first_and_last : map (λ n. date_text (date_after n)) (0 ∷ 36524 ∷ []) ≡ codes "2000-01-01" ∷ codes "2099-12-31" ∷ []
first_and_last = refl

-- days that the calendar lacks, and times that a day lacks
are_none : map (λ d. clock_of d (codes "00:00:00")) (codes "2026-02-29" ∷ codes "2026-04-31" ∷ codes "2026-13-01" ∷ codes "1999-12-31" ∷ codes "2100-01-01" ∷ [])
    ≡ None ∷ None ∷ None ∷ None ∷ None ∷ []
are_none = refl

-- a calendar in which no year has a 29 February
abbrev pub february_of_28 : ℕ → ℕ → ℕ
february_of_28 y n = month_of false (n - days_of_years y)

-- day 10,286 would be in March of 2028
would_be_march : february_of_28 28 10286 ≡ 3
would_be_march = refl
