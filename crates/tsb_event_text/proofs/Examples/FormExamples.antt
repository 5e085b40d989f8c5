-- Rows, times and words in other forms, computed.
use Rattle.std.proofs.Common.{◌≡◌, ℕ, List, [], ◌∷◌, Some, None, refl, codes}
use Rattle.tsb_event_text.specs.declared.columns.Separator.TheVariants.{Semicolon, Tab}
use Rattle.tsb_event_text.specs.declared.time_forms.TimeForm.TheVariants.{DayFirst}
use Rattle.tsb_event_text.specs.declared.zones.Zone.{Zone}
use Rattle.tsb_event_text.specs.Columns.{header_by, header_of, separator_of, usual_by, usual_columns, usual_of}
use Rattle.tsb_event_text.specs.Faults.{is_preface}
use Rattle.tsb_event_text.specs.Fields.{fields_of, joined}
use Rattle.tsb_event_text.specs.Laws.{AreFree, shown_by}
use Rattle.tsb_event_text.specs.TimeForms.{clock_mark, day_mark, moved, own_zone, shown_clock, time_form_named, utc, zone_named}
use Rattle.tsb_event_text.specs.Wide.{is_passed, whole_of}
use Rattle.std.specs.Prelude.{true}

-- ## Separators

-- a row whose device and time have commas
abbrev said : List (List ℕ)
said = codes "Main, 5th" ∷ codes "2026-11-22 07:00:03,2" ∷ codes "82" ∷ codes "4" ∷ []

semicolons_free : AreFree 59 said
semicolons_free = (refl, refl, (refl, refl, (refl, refl, (refl, refl, tt))))

semicolons_say : fields_of 59 (codes "Main, 5th;2026-11-22 07:00:03,2;82;4") ≡ Some said
semicolons_say = refl

tabs_say : fields_of 9 (joined 9 said) ≡ Some said
tabs_say = refl

-- a trailing separator is one field more
trails : fields_of 59 (codes "7;82;") ≡ Some (codes "7" ∷ codes "82" ∷ [] ∷ [])
trails = refl

-- headers of semicolons and of tabs
names_by_semicolons : header_of (codes "SignalID;Timestamp;EventCode;EventParam") ≡ Some (usual_by Semicolon)
unfolding header_of header_by
names_by_semicolons = refl

names_by_tabs : header_of (joined 9 (codes "signal_id" ∷ codes "TIMESTAMP" ∷ codes "Event Code" ∷ codes "param" ∷ [])) ≡ Some (usual_by Tab)
unfolding header_of header_by
names_by_tabs = refl

-- first rows
begins_so : usual_of (codes "7,2026-11-22 07:00:00.1,82,3") ≡ usual_columns
unfolding separator_of
begins_so = refl

begins_by_semicolons : usual_of (codes "7;2026-11-22 07:00:03,2;82;4") ≡ usual_by Semicolon
unfolding separator_of
begins_by_semicolons = refl

-- a line before the header, of two fields by semicolons
before_it : is_preface (codes "\"Version\";3") ≡ true
unfolding is_preface
before_it = refl

-- lines of databases
drawn : is_passed (codes "-----;-----") ≡ true
unfolding is_passed
drawn = refl

counted : is_passed (codes "(2 rows affected)") ≡ true
unfolding is_passed
counted = refl

-- ## Times

comma_is_a_point : shown_clock (codes "07:00:03,2") ≡ shown_clock (codes "07:00:03.2")
comma_is_a_point = refl

shown : shown_clock (codes "07:00:03,2-07:00") ≡ Some 25203200000000
shown = refl

t_stands_first : clock_mark (codes "2026-11-22T07:00:03 UTC") ≡ 84
t_stands_first = refl

t_of_utc : clock_mark (codes "2026-11-22 07:00:03 UTC") ≡ 32
t_of_utc = refl

points_part : day_mark (codes "22.11.2026") ≡ 46
points_part = refl

-- ## Zones

-- seven hours behind UTC
abbrev mountain : Zone
mountain = record { east = 0; west = 420 }

-- five and a half hours ahead
abbrev india : Zone
india = record { east = 330; west = 0 }

words : zone_named (codes "-07:00") ≡ Some mountain
words = refl

without_colon : zone_named (codes "+0530") ≡ Some india
without_colon = refl

hours_alone : zone_named (codes "-7") ≡ Some mountain
hours_alone = refl

names_utc : zone_named (codes "utc") ≡ Some utc
names_utc = refl

too_far : zone_named (codes "+24:00") ≡ None
too_far = refl

-- a clock says its zone, or has the one that is asked for
says_so : own_zone india (codes "07:00:03.2-07:00") ≡ Some mountain
says_so = refl

says_utc : own_zone india (codes "07:00:03 UTC") ≡ Some utc
says_utc = refl

says_none : own_zone india (codes "7:00:03 AM") ≡ Some india
says_none = refl

-- 14:00 by UTC is 7:00 there, whichever clock tells it
one_instant : moved (Some mountain) utc (shown_by utc 50400000000000) ≡ 25200000000000
one_instant = refl

told_by_india : moved (Some mountain) india (shown_by india 50400000000000) ≡ 25200000000000
told_by_india = refl

-- ## Words

names_form : time_form_named (codes "day-first") ≡ Some DayFirst
names_form = refl

other_word : time_form_named (codes "Day-first") ≡ None
other_word = refl

-- a comma in a whole number may part its thousands: it is none
no_thousands : whole_of (codes "1,000") ≡ None
no_thousands = refl
