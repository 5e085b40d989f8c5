-- What holds of rows that say their zones. Each law here is a clause of a function in src/zone_laws.rt.
use Rattle.std.specs.Prelude.{◌≡◌, ◌==◌, ◌||◌, not, Bool, true, ℕ, List, Some, None, codes}
use Rattle.std.specs.Str.{str_eq_ignore_ascii_case}
use Rattle.tsb_event_text.specs.Events.{has_byte}
use Rattle.tsb_event_text.specs.TimeForms.{behind, clock_mark, moment_in, zone_sign}
use Rattle.tsb_event_text.specs.declared.time_forms.TimeForm.{TimeForm}
use Rattle.tsb_event_text.specs.declared.times.Moment.{Moment}
use Rattle.tsb_field_streams.specs.Filtering.{is_of_clock}
use Rattle.tsb_field_streams.specs.declared.filter.zones.TheConstants.{ELSEWHERE}

-- a zone follows a clock: Z, an offset with its sign, or UTC after a space
abbrev pub has_zone : List ℕ → Bool
has_zone clock = has_byte (zone_sign clock) clock || str_eq_ignore_ascii_case (behind 32 clock) (codes "utc")

-- by the clock of a zone that no row can say a time has another moment just where a zone follows its clock
abbrev pub ZonesAreSeen : Type 0
ZonesAreSeen = (form : TimeForm) (time : List ℕ) (shown other : Moment) → is_of_clock form ≡ true → moment_in form None time ≡ Some shown → moment_in form (Some ELSEWHERE) time ≡ Some other
    → not (other.nanos == shown.nanos) ≡ has_zone (behind (clock_mark time) time)
