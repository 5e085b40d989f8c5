-- The clock: the moment of each tick, once a clock is set, and the midnight from which the local counter of a pattern
-- counts. That a counter goes on from midnight to midnight without a jump is the profile's own. Moments and times are in
-- tenths of a second, which are ticks; a moment is counted from 1999-12-24 00:00.
use Rattle.std.specs.Prelude.{ℕ, ◌+◌, ◌-◌, ◌%◌, ◌==◌, if◌then◌else◌, Option, Some, None}
use Rattle.tsb_objects.specs.tsb_types.declared.clock_time.TheConstants.{DAY, FIRST_MOMENT}
use Rattle.tsb_objects.specs.Instants.{residue_of_difference}

-- the moment of tick number 0, where that of tick number `now` is m; each tick before is a tenth earlier
abbrev pub start_of : ℕ → ℕ → ℕ
start_of m now = m - now

-- eight days: so a number that is counted from them is never negative, as a run has less
abbrev pub spare : ℕ
spare = FIRST_MOMENT

-- how long after the midnight at or before tick number `now` tick number 0 comes, counted from `spare`, as it may come
-- before that; 0 where no clock is set
abbrev pub midnight_at : Option ℕ → ℕ → ℕ
midnight_at None now = 0
midnight_at (Some start) now = spare + (start + now) % DAY - now

-- the same within a cycle of m: so many ticks a counter is further than one that counts from tick number 0
abbrev pub shift : ℕ → ℕ → ℕ
shift m midnight = if midnight == 0 then 0 else residue_of_difference m midnight spare
