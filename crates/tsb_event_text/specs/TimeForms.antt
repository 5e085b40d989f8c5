-- Times in the forms in which exports have them: days by numbers in three orders, clocks of 24 or of 12 hours, zones behind
-- them, and seconds or milliseconds of Unix. Where a zone is asked for, what its clock shows is the moment.
use Rattle.std.specs.Prelude.{ℕ, ◌+◌, ◌-◌, ◌*◌, ◌%◌, ◌==◌, ◌&&◌, ◌||◌, nat_le, nat_lt, Bool, true, false, List, [], ◌∷◌, ◌++◌, length, take, drop, if◌then◌else◌, Option, Some, None, codes}
use Rattle.std.specs.Str.{bytes_eq, str_eq_ignore_ascii_case}
use Rattle.tsb_lines.specs.Words.{number_of}
use Rattle.tsb_event_text.specs.declared.time_forms.Half.{Half}
use Rattle.tsb_event_text.specs.declared.time_forms.Half.TheVariants.{Whole, Morning, Evening}
use Rattle.tsb_event_text.specs.declared.time_forms.TimeForm.{TimeForm}
use Rattle.tsb_event_text.specs.declared.time_forms.TimeForm.TheVariants.{YearFirst, MonthFirst, DayFirst, Seconds, Milliseconds}
use Rattle.tsb_event_text.specs.declared.times.Moment.{Moment}
use Rattle.tsb_event_text.specs.declared.zones.Zone.{Zone}
use Rattle.tsb_event_text.specs.Events.{has_byte}
use Rattle.tsb_event_text.specs.Times.{day_of, second_of}

-- ## Parts of a text

-- what stands before the first of this byte: all, where there is none
abbrev pub before : ℕ → List ℕ → List ℕ
before mark [] = []
before mark (b ∷ bs) = if b == mark then [] else b ∷ before mark bs

-- what follows the first of this byte: nothing, where there is none
abbrev pub behind : ℕ → List ℕ → List ℕ
behind mark [] = []
behind mark (b ∷ bs) = if b == mark then bs else behind mark bs

-- there is no byte
abbrev pub is_empty : List ℕ → Bool
is_empty [] = true
is_empty (b ∷ bs) = false

-- there is one
abbrev pub is_there : {A : Type 0} → Option A → Bool
is_there None = false
is_there (Some it) = true

-- ## Clocks

-- digits of a second's fraction, nine at most
abbrev pub fraction_of : List ℕ → Option ℕ
fraction_of [] = Some 0
fraction_of (d ∷ ds) =
    if nat_le (length (d ∷ ds)) 9 then number_of ((d ∷ ds) ++ drop (length (d ∷ ds)) (codes "000000000")) else None

-- which hours a mark behind a clock means: of the whole day, of its morning or of its evening
abbrev pub half_of : List ℕ → Option Half
half_of mark =
    if is_empty mark || str_eq_ignore_ascii_case mark (codes "utc") then Some Whole
    else if str_eq_ignore_ascii_case mark (codes "am") then Some Morning
    else if str_eq_ignore_ascii_case mark (codes "pm") then Some Evening
    else None

-- the hour of the day: of a half one of 1 to 12, where 12 comes first
abbrev pub hour_in : Option ℕ → Half → Option ℕ
hour_in None half = None
hour_in (Some hour) Whole = Some hour
hour_in (Some hour) Morning = if nat_le 1 hour && nat_le hour 12 then Some (hour % 12) else None
hour_in (Some hour) Evening = if nat_le 1 hour && nat_le hour 12 then Some (hour % 12 + 12) else None

-- the nanoseconds of a day from its second and a fraction
abbrev pub nanos_at : Option ℕ → Option ℕ → Option ℕ
nanos_at (Some second) (Some nano) = Some (second * 1000000000 + nano)
nanos_at second nano = None

-- the byte before a fraction: a point, or else a comma
abbrev pub point_of : List ℕ → ℕ
point_of text = if has_byte 46 text then 46 else 44

-- a second with its fraction, behind an hour and a minute
abbrev pub seconds_said : Half → List ℕ → List ℕ → List ℕ → Option ℕ
seconds_said half hour minute rest =
    nanos_at (second_of (hour_in (number_of hour) half) (number_of minute) (number_of (before (point_of rest) rest)))
    (fraction_of (behind (point_of rest) rest))

-- what stands behind the hour: a minute, and what is behind it
abbrev pub minutes_said : Half → List ℕ → List ℕ → Option ℕ
minutes_said half hour rest = seconds_said half hour (before 58 rest) (behind 58 rest)

-- a clock of these hours
abbrev pub hours_said : Option Half → List ℕ → Option ℕ
hours_said None clock = None
hours_said (Some half) clock = minutes_said half (before 58 clock) (behind 58 clock)

-- a clock without a zone, with its mark behind a space
abbrev pub clock_of : List ℕ → Option ℕ
clock_of clock = hours_said (half_of (behind 32 clock)) (before 32 clock)

-- ## Zones

-- UTC itself
abbrev pub utc : Zone
utc = record { east = 0; west = 0 }

-- a zone whose clock is so many minutes ahead of that of UTC
abbrev pub east_by : Option ℕ → Option Zone
east_by None = None
east_by (Some minutes) = Some (record { east = minutes; west = 0 })

-- a zone whose clock is so many minutes behind it
abbrev pub west_by : Option ℕ → Option Zone
west_by None = None
west_by (Some minutes) = Some (record { east = 0; west = minutes })

-- hours and minutes in minutes, less than a day
abbrev pub minutes_at : Option ℕ → Option ℕ → Option ℕ
minutes_at (Some hours) (Some minutes) = if nat_lt hours 24 && nat_lt minutes 60 then Some (hours * 60 + minutes) else None
minutes_at hours minutes = None

-- hours in two digits at most, and minutes in two
abbrev pub hours_and : List ℕ → List ℕ → Option ℕ
hours_and hours minutes =
    if nat_le (length hours) 2 && length minutes == 2 then minutes_at (number_of hours) (number_of minutes) else None

-- the minutes of an offset without its sign: `07:00`, `0700` or `07`
abbrev pub offset_of : List ℕ → Option ℕ
offset_of text =
    if has_byte 58 text then hours_and (before 58 text) (behind 58 text)
    else if nat_le (length text) 2 then hours_and text (codes "00")
    else hours_and (take (length text - 2) text) (drop (length text - 2) text)

-- the zone that this sign begins, a plus, a minus or Z, with this behind it
abbrev pub zone_by : ℕ → List ℕ → Option Zone
zone_by sign rest =
    if sign == 43 then east_by (offset_of rest)
    else if sign == 45 then west_by (offset_of rest)
    else if is_empty rest then Some utc else None

-- the zone that a word names: Z, UTC, or an offset with its sign
abbrev pub zone_named : List ℕ → Option Zone
zone_named [] = None
zone_named (b ∷ bs) =
    if b == 43 || b == 45 then zone_by b bs
    else if str_eq_ignore_ascii_case (b ∷ bs) (codes "z") || str_eq_ignore_ascii_case (b ∷ bs) (codes "utc") then Some utc
    else None

-- the byte with which a zone begins behind a clock: Z, a plus, or else a minus
abbrev pub zone_sign : List ℕ → ℕ
zone_sign clock = if has_byte 90 clock then 90 else if has_byte 43 clock then 43 else 45

-- the zone of a clock: that which it says, or else this one
abbrev pub own_zone : Zone → List ℕ → Option Zone
own_zone zone clock =
    if has_byte (zone_sign clock) clock then zone_by (zone_sign clock) (behind (zone_sign clock) clock)
    else if str_eq_ignore_ascii_case (behind 32 clock) (codes "utc") then Some utc
    else Some zone

-- the nanoseconds of a day that a clock shows, whatever its zone
abbrev pub shown_clock : List ℕ → Option ℕ
shown_clock clock = clock_of (before (zone_sign clock) clock)

-- the zone that is asked for; without one any will do
abbrev pub zone_or : Option Zone → Zone
zone_or None = utc
zone_or (Some zone) = zone

-- what the clock of the zone that is asked for shows when a clock of this zone shows so many nanoseconds: as many, where
-- none is asked for
abbrev pub moved : Option Zone → Zone → ℕ → ℕ
moved None own nanos = nanos
moved (Some zone) own nanos = (nanos + (zone.east + own.west) * 60000000000) - (zone.west + own.east) * 60000000000

-- ## Days

-- the day of a year in four digits, a month and a day
abbrev pub day_at : List ℕ → List ℕ → List ℕ → Option ℕ
day_at year month day = if length year == 4 then day_of (number_of year) (number_of month) (number_of day) else None

-- the day of three numbers, in the order of a form
abbrev pub day_in : TimeForm → List ℕ → List ℕ → List ℕ → Option ℕ
day_in YearFirst a b c = day_at a b c
day_in MonthFirst a b c = day_at c a b
day_in DayFirst a b c = day_at c b a
day_in form a b c = None

-- the byte between the numbers of a day: a slash, or else a hyphen, or else a point
abbrev pub day_mark : List ℕ → ℕ
day_mark day = if has_byte 47 day then 47 else if has_byte 45 day then 45 else 46

-- the day of numbers between which this mark stands
abbrev pub day_with : TimeForm → ℕ → List ℕ → Option ℕ
day_with form mark day = day_in form (before mark day) (before mark (behind mark day)) (behind mark (behind mark day))

-- the day of a text
abbrev pub day_said : TimeForm → List ℕ → Option ℕ
day_said form day = day_with form (day_mark day) day

-- ## Moments

-- the moment so many nanoseconds after a day has begun, by a clock of this zone
abbrev pub moment_on : Option Zone → Option ℕ → Option ℕ → Option Zone → Option Moment
moment_on asked (Some day) (Some nanos) (Some own) = Some (record { nanos = moved asked own (day * 86400000000000 + nanos) })
moment_on asked day nanos own = None

-- the byte between a day and a clock: T, where one stands before the first space, or else a space
abbrev pub clock_mark : List ℕ → ℕ
clock_mark text = if has_byte 84 (before 32 text) then 84 else 32

-- the moment of a day and a clock
abbrev pub with_clock : TimeForm → Option Zone → List ℕ → List ℕ → Option Moment
with_clock form zone day clock = moment_on zone (day_said form day) (shown_clock clock) (own_zone (zone_or zone) clock)

-- the moment of a day by numbers and a clock
abbrev pub numbered : TimeForm → Option Zone → List ℕ → Option Moment
numbered form zone text = with_clock form zone (before (clock_mark text) text) (behind (clock_mark text) text)

-- so many seconds and nanoseconds after 1970 began by the clock of UTC
abbrev pub moment_after : Option Zone → Option ℕ → Option ℕ → Option Moment
moment_after asked (Some second) (Some nano) =
    Some (record { nanos = moved asked utc ((377705116800 + second) * 1000000000 + nano) })
moment_after asked second nano = None

-- without its last three bytes
abbrev pub without_three : List ℕ → List ℕ
without_three text = take (length text - 3) text

-- its last three bytes
abbrev pub last_three : List ℕ → List ℕ
last_three text = drop (length text - 3) text

-- the moment that a text names in a form
abbrev pub moment_in : TimeForm → Option Zone → List ℕ → Option Moment
moment_in Seconds zone text = moment_after zone (number_of (before (point_of text) text)) (fraction_of (behind (point_of text) text))
moment_in Milliseconds zone text = moment_after zone (number_of (without_three text)) (fraction_of (last_three text))
moment_in form zone text = numbered form zone text

-- ## The form of a time

-- a text names a moment in this form
abbrev pub is_in : TimeForm → List ℕ → Bool
is_in form text = is_there (moment_in form None text)

-- two forms read it: whether its month or its day is first can't be told
abbrev pub is_ambiguous : List ℕ → Bool
is_ambiguous text = is_in MonthFirst text && is_in DayFirst text

-- the one form in which a text is a time
abbrev pub form_of : List ℕ → Option TimeForm
form_of text =
    if is_in YearFirst text then Some YearFirst
    else if is_ambiguous text then None
    else if is_in MonthFirst text then Some MonthFirst
    else if is_in DayFirst text then Some DayFirst
    else if is_in Seconds text then Some Seconds
    else if is_in Milliseconds text then Some Milliseconds
    else None

-- the word of a form
abbrev pub time_form_word : TimeForm → List ℕ
time_form_word YearFirst = codes "year-first"
time_form_word MonthFirst = codes "month-first"
time_form_word DayFirst = codes "day-first"
time_form_word Seconds = codes "seconds"
time_form_word Milliseconds = codes "milliseconds"

-- the form that a word names
abbrev pub time_form_named : List ℕ → Option TimeForm
time_form_named word =
    if bytes_eq word (time_form_word YearFirst) then Some YearFirst
    else if bytes_eq word (time_form_word MonthFirst) then Some MonthFirst
    else if bytes_eq word (time_form_word DayFirst) then Some DayFirst
    else if bytes_eq word (time_form_word Seconds) then Some Seconds
    else if bytes_eq word (time_form_word Milliseconds) then Some Milliseconds
    else None
