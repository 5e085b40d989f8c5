-- A mistake in how zones are seen, and an example that shows it.
use Rattle.std.specs.Prelude.{◌≡◌, ◌==◌, not, true, false, Some, codes, refl}
use Rattle.tsb_event_text.specs.TimeForms.{moved, utc}
use Rattle.tsb_field_streams.specs.ZoneLaws.{has_zone}
use Rattle.tsb_field_streams.specs.declared.filter.zones.TheConstants.{ELSEWHERE}

has_zone_there : has_zone (codes "07:00:01Z") ≡ true
has_zone_there = refl

has_none_there : has_zone (codes "07:00:01.5") ≡ false
has_none_there = refl

-- 100,000 s by the clock of UTC
is_seen : not (moved (Some ELSEWHERE) utc 100000000000000 == 100000000000000) ≡ true
is_seen = refl

-- ## The clock of UTC in place of that of a zone that no row can say

would_be_unseen : not (moved (Some utc) utc 100000000000000 == 100000000000000) ≡ false
would_be_unseen = refl
