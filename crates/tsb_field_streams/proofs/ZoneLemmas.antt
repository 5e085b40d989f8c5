-- Zones that rows say.
use Rattle.std.proofs.Common.{◌≡◌, ℕ, ◌+◌, ◌-◌, ◌*◌, ◌<◌, ◌==◌, ◌&&◌, ◌||◌, nat_le, not, Bool, true, false, List, length, take, drop, codes, refl, ap, ◌∙◌, arith, subst, inl, inr, Option, Some, None, if◌then◌else◌}
use Rattle.std.specs.Option.{IfSome}
use Rattle.std.specs.Str.{str_eq_ignore_ascii_case}
use Rattle.std.proofs.lemmas.Bool.{cases_lt, lt-ltb, le-ltb, ne_eqb}
use Rattle.std.proofs.lemmas.Bool.Decides.{eqb_tells}
use Rattle.std.proofs.lemmas.Option.{none-some}
use Rattle.tsb_lines.specs.Words.{number_of}
use Rattle.tsb_event_text.specs.Events.{has_byte}
use Rattle.tsb_event_text.specs.TimeForms.{before, behind, clock_mark, day_said, east_by, hours_and, is_empty, minutes_at, moment_on, moved, numbered, offset_of, own_zone, shown_clock, utc, west_by, zone_by, zone_sign}
use Rattle.tsb_event_text.specs.declared.time_forms.TimeForm.{TimeForm}
use Rattle.tsb_event_text.specs.declared.time_forms.TimeForm.TheVariants.{YearFirst, MonthFirst, DayFirst, Seconds, Milliseconds}
use Rattle.tsb_event_text.specs.declared.times.Moment.{Moment}
use Rattle.tsb_event_text.specs.declared.zones.Zone.{Zone}
use Rattle.tsb_field_streams.specs.ZoneLaws.{ZonesAreSeen, has_zone}
use Rattle.tsb_field_streams.specs.declared.filter.zones.TheConstants.{ELSEWHERE}

-- ## Zones are less than a day ahead

-- of two that are so one is
either : {A : Type 0} (P : A → Type 0) (b : Bool) (x y : Option A) → IfSome x P → IfSome y P → IfSome (if b then x else y) P
either P true x y first second = first
either P false x y first second = second

abbrev IsBelow : ℕ → Type 0
IsBelow minutes = minutes < 1440

abbrev IsNear : Zone → Type 0
IsNear zone = zone.east < 1440

minutes-below : (hours minutes : Option ℕ) → IfSome (minutes_at hours minutes) IsBelow
minutes-below None minutes = tt
minutes-below (Some hours) None = tt
minutes-below (Some hours) (Some minutes) = elim (cases_lt hours 24) [
  | inr late ↦ rw (le-ltb hours 24 late) tt
  | inl early ↦ elim (cases_lt minutes 60) [
    | inr over ↦ rw (lt-ltb hours 24 early, le-ltb minutes 60 over) tt
    | inl under ↦ rw (lt-ltb hours 24 early, lt-ltb minutes 60 under) (omega (arith, early, under))
  ]
]

hours-below : (hours minutes : List ℕ) → IfSome (hours_and hours minutes) IsBelow
hours-below hours minutes =
    either IsBelow (nat_le (length hours) 2 && length minutes == 2) (minutes_at (number_of hours) (number_of minutes)) None (minutes-below (number_of hours) (number_of minutes)) tt

offset-below : (text : List ℕ) → IfSome (offset_of text) IsBelow
offset-below text =
    either IsBelow (has_byte 58 text) (hours_and (before 58 text) (behind 58 text)) _ (hours-below (before 58 text) (behind 58 text))
    (either IsBelow (nat_le (length text) 2) (hours_and text (codes "00")) _ (hours-below text (codes "00"))
    (hours-below (take (length text - 2) text) (drop (length text - 2) text)))

east-near : (minutes : Option ℕ) → IfSome minutes IsBelow → IfSome (east_by minutes) IsNear
east-near None below = tt
east-near (Some minutes) below = below

west-near : (minutes : Option ℕ) → IfSome (west_by minutes) IsNear
west-near None = tt
west-near (Some minutes) = omega arith

zone-near : (sign : ℕ) (rest : List ℕ) → IfSome (zone_by sign rest) IsNear
zone-near sign rest =
    either IsNear (sign == 43) (east_by (offset_of rest)) _ (east-near (offset_of rest) (offset-below rest))
    (either IsNear (sign == 45) (west_by (offset_of rest)) _ (west-near (offset_of rest))
    (either IsNear (is_empty rest) (Some utc) None (omega arith) tt))

-- ## A zone moves what is shown

-- what the clock of the zone that no row says shows, where one of this zone shows so much
abbrev there : Zone → ℕ → ℕ
there own nanos = moved (Some ELSEWHERE) own nanos

moves : (own : Zone) (nanos : ℕ) → IsNear own → not (there own nanos == nanos) ≡ true
moves own nanos near = ap not (ne_eqb (there own nanos) nanos (λ (same : there own nanos ≡ nanos). omega (arith, near, same)))

stays : (nanos : ℕ) → not (there ELSEWHERE nanos == nanos) ≡ false
stays nanos =
    let same : there ELSEWHERE nanos ≡ nanos = omega arith in
    ap (λ (n : ℕ). not (n == nanos)) same ∙ ap not (same-is nanos)
  where
    same-is : (n : ℕ) → (n == n) ≡ true
    same-is n = elim (eqb_tells n n) [
      | inl same ↦ same.0
      | inr other ↦ absurd (other.1 refl)
    ]

-- ## Moments of times

-- the moments of what a day and a clock say, by the zones that the clock has
on-day : (day nanos : Option ℕ) (mine theirs : Option Zone) (shown other : Moment) (zone : Bool) → moment_on None day nanos mine ≡ Some shown → moment_on (Some ELSEWHERE) day nanos theirs ≡ Some other
    → ((n : ℕ) → IfSome theirs (λ z. not (there z n == n) ≡ zone)) → not (other.nanos == shown.nanos) ≡ zone
on-day None nanos mine theirs shown other zone is by says = absurd (none-some shown is)
on-day (Some day) None mine theirs shown other zone is by says = absurd (none-some shown is)
on-day (Some day) (Some nanos) None theirs shown other zone is by says = absurd (none-some shown is)
on-day (Some day) (Some nanos) (Some own) None shown other zone is by says = absurd (none-some other by)
on-day (Some day) (Some nanos) (Some own) (Some its) shown other zone is by says =
    let n : ℕ = day * 86400000000000 + nanos in
    let first : Some (record { nanos = n }) ≡ Some shown = is in
    let second : Some (record { nanos = there its n }) ≡ Some other = by in
    let so : record { nanos = n } ≡ shown = cc in
    let also : record { nanos = there its n } ≡ other = cc in
    let shows : n ≡ shown.nanos = ap (λ (m : Moment). m.nanos) so in
    let moves : there its n ≡ other.nanos = ap (λ (m : Moment). m.nanos) also in
    subst (λ (m : ℕ). not (other.nanos == m) ≡ zone) shows (subst (λ (m : ℕ). not (m == n) ≡ zone) moves (says n))

-- by what follows a clock
by-mark : (signed named : Bool) (said : Option Zone) (n : ℕ) → IfSome said IsNear
    → IfSome (if signed then said else if named then Some utc else Some ELSEWHERE) (λ z. not (there z n == n) ≡ (signed || named))
by-mark true named None n near = tt
by-mark true named (Some own) n near = moves own n near
by-mark false true said n near = moves utc n (omega arith)
by-mark false false said n near = stays n

clock-says : (clock : List ℕ) (n : ℕ) → IfSome (own_zone ELSEWHERE clock) (λ z. not (there z n == n) ≡ has_zone clock)
clock-says clock n =
    by-mark (has_byte (zone_sign clock) clock) (str_eq_ignore_ascii_case (behind 32 clock) (codes "utc")) (zone_by (zone_sign clock) (behind (zone_sign clock) clock)) n
    (zone-near (zone_sign clock) (behind (zone_sign clock) clock))

on-clock : (form : TimeForm) (time : List ℕ) (shown other : Moment) → numbered form None time ≡ Some shown → numbered form (Some ELSEWHERE) time ≡ Some other
    → not (other.nanos == shown.nanos) ≡ has_zone (behind (clock_mark time) time)
on-clock form time shown other is by =
    on-day (day_said form (before (clock_mark time) time)) (shown_clock (behind (clock_mark time) time)) (own_zone utc (behind (clock_mark time) time)) (own_zone ELSEWHERE (behind (clock_mark time) time)) shown other
    (has_zone (behind (clock_mark time) time)) is by (clock-says (behind (clock_mark time) time))

pub zones-are-seen : ZonesAreSeen
zones-are-seen YearFirst time shown other clock is by = on-clock YearFirst time shown other is by
zones-are-seen MonthFirst time shown other clock is by = on-clock MonthFirst time shown other is by
zones-are-seen DayFirst time shown other clock is by = on-clock DayFirst time shown other is by
zones-are-seen Seconds time shown other clock is by = let no : false ≡ true = clock in absurd cc
zones-are-seen Milliseconds time shown other clock is by = let no : false ≡ true = clock in absurd cc
