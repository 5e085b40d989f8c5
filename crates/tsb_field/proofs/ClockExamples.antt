-- Clocks of moments, computed: a moment counts nanoseconds from -9999-01-01, and a clock tenths of a second from 1999-12-24.
use Rattle.std.proofs.Common.{◌≡◌, ℕ, Some, None, true, false, refl}
use Rattle.tsb_event_text.specs.declared.times.Moment.{Moment}
use Rattle.tsb_field.specs.Clocks.{clock_at, clock_of, lacks_clock}

abbrev at : ℕ → Moment
at n = record { nanos = n }

-- a tenth after 7:00 on 2026-11-22, day 9,830, and what is less than a tenth is left out
seven : clock_at (at 379500447600190000000) ≡ Some 8493372001
seven = refl

-- the first and the last tenth that a clock has
first : clock_at (at 378651801600000000000) ≡ Some 6912000
first = refl

last : clock_at (at 381807561599999999999) ≡ Some 31564511999
last = refl

-- and the moments before and after
before : clock_at (at 378651801599999999999) ≡ None
before = refl

after : clock_at (at 381807561600000000000) ≡ None
after = refl

-- a record of such a moment lacks a clock, unless words say that it has none
lacks : lacks_clock false (at 378651801599999999999) ≡ true
lacks = refl

lacks_none : lacks_clock true (at 378651801599999999999) ≡ false
lacks_none = refl

has_none : clock_of true (at 379500447600190000000) ≡ None
has_none = refl
