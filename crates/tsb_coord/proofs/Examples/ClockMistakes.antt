-- What the law of counters with a clock refuses, by computing: definitions with one mistake.
use Rattle.std.specs.Prelude.{◌≡◌, ℕ, ◌+◌, ◌%◌, [], ◌∷◌, refl}
use Rattle.tsb_objects.specs.tsb_types.declared.clock_time.TheConstants.{DAY}
use Rattle.tsb_coord.specs.Clock.{spare, shift}
use Rattle.tsb_coord.proofs.Examples.ClockExamples.{evening}

-- a counter from the midnight before tick number 0, also where its pattern is selected on a later day
abbrev pub from_the_first : ℕ → ℕ → ℕ
from_the_first start now = spare + start % DAY

-- selected in tick 300 at 0:00:10, it would be where one is that was selected the day before, and not at 900
would_jump_back : shift 1100 (from_the_first evening 300) ≡ 300
would_jump_back = refl

-- a counter that begins anew at each midnight
abbrev pub from_each : ℕ → ℕ → ℕ → ℕ
from_each start now t = (start + t) % DAY

-- it would jump at midnight, from 863,999 to 0
would_begin_anew : from_each evening 100 199 ∷ from_each evening 100 200 ∷ [] ≡ 863999 ∷ 0 ∷ []
would_begin_anew = refl
