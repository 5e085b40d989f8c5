-- One-line mistakes with forms of exports, each with an example that tells it from the definition.
use Rattle.std.proofs.Common.{◌≡◌, ℕ, ◌+◌, ◌-◌, ◌*◌, List, [], ◌∷◌, Option, Some, None, if◌then◌else◌, refl, codes}
use Rattle.std.specs.Str.{bytes_eq}
use Rattle.tsb_event_text.specs.declared.columns.Separator.TheVariants.{Comma}
use Rattle.tsb_event_text.specs.declared.time_forms.TimeForm.{TimeForm}
use Rattle.tsb_event_text.specs.declared.time_forms.TimeForm.TheVariants.{YearFirst, MonthFirst}
use Rattle.tsb_event_text.specs.declared.zones.Zone.{Zone}
use Rattle.tsb_event_text.specs.Columns.{separator_of, usual_columns}
use Rattle.tsb_event_text.specs.Fields.{fields_of, joined}
use Rattle.tsb_event_text.specs.Laws.{shown_by}
use Rattle.tsb_event_text.specs.Rows.{row_of}
use Rattle.tsb_event_text.specs.TimeForms.{moved, utc}
use Rattle.tsb_event_text.specs.Times.{moment_of}

-- ## Fields that are not free

-- a semicolon of a device parts it where semicolons part fields
mark_parts : fields_of 59 (joined 59 (codes "Main; 5th" ∷ codes "82" ∷ [])) ≡ Some (codes "Main" ∷ codes " 5th" ∷ codes "82" ∷ [])
mark_parts = refl

-- a quote that begins a field has to be closed
quote_opens : fields_of 59 (joined 59 (codes "\"7" ∷ codes "82" ∷ [])) ≡ None
quote_opens = refl

-- ## Commas, whatever the header has

header_says : row_of usual_columns None (codes "7;2026-11-22 07:00:03.2;82;4") ≡ None
unfolding row_of moment_of
header_says = refl

-- ## A line with too few fields for a first row

two_fields : separator_of (codes "7;82") ≡ Comma
unfolding separator_of
two_fields = refl

-- ## An offset that is added where it has to be taken away

abbrev moved_away : Zone → Zone → ℕ → ℕ
moved_away zone own nanos = (nanos + (zone.east + own.east) * 60000000000) - (zone.west + own.west) * 60000000000

abbrev mountain : Zone
mountain = record { east = 0; west = 420 }

-- 14:00 by UTC would be midnight by a clock that is seven hours behind, told by itself
offset_added : moved_away mountain mountain (shown_by mountain 50400000000000) ≡ 0
offset_added = refl

as_defined : moved (Some mountain) mountain (shown_by mountain 50400000000000) ≡ 25200000000000
as_defined = refl

by_utc : moved_away mountain utc (shown_by utc 50400000000000) ≡ 25200000000000
by_utc = refl

-- ## Two forms with one word

abbrev short_word : TimeForm → List ℕ
short_word YearFirst = codes "date"
short_word MonthFirst = codes "date"
short_word form = codes "number"

abbrev named_short : List ℕ → Option TimeForm
named_short word = if bytes_eq word (short_word YearFirst) then Some YearFirst else if bytes_eq word (short_word MonthFirst) then Some MonthFirst else None

one_word : named_short (short_word MonthFirst) ≡ Some YearFirst
one_word = refl
