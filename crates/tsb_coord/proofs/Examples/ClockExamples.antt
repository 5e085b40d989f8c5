-- Local counters with a clock, by computing. Tick number 0 is at 7:00 of 2000-01-01 first: 252,000 tenths after midnight,
-- which are 229 cycles of 110 s and 10 s. Then it is at 23:59:40, so that tick 200 is at midnight. A cycle of 110 s that
-- counts from the midnight before is 30 s further there: 863,800 tenths are 785 cycles and 30 s.
use Rattle.std.specs.Prelude.{◌≡◌, ℕ, [], ◌∷◌, Option, Some, None, map, refl}
use Rattle.tsb_objects.specs.tsb_plan.Quad.{quad}
use Rattle.tsb_coord.specs.Clock.{midnight_at, shift, start_of}
use Rattle.tsb_coord.specs.Correction.{local_now, selected_correction}
use Rattle.tsb_coord.specs.Laws.{since_midnight}

-- seven in the morning of 2000-01-01, in tick number 0, and in tick number 500 at 7:00:50
abbrev pub seven : ℕ
seven = 7164000

is_seven : start_of 7164000 0 ∷ start_of 7164500 500 ∷ [] ≡ seven ∷ seven ∷ []
is_seven = refl

-- a run from 7:00 is 10 s further in a cycle of 110 s, and none in one of 80 s
from_seven : map (λ m. shift m (midnight_at (Some seven) 0)) (1100 ∷ 800 ∷ []) ≡ 100 ∷ 0 ∷ []
from_seven = refl

-- also where the pattern is selected later on that day
from_seven_later : map (λ now. shift 1100 (midnight_at (Some seven) now)) (1 ∷ 500 ∷ 611999 ∷ []) ≡ 100 ∷ 100 ∷ 100 ∷ []
from_seven_later = refl

without_a_clock : shift 1100 (midnight_at None 500) ≡ 0
without_a_clock = refl

-- ## Across midnight

-- tick number 0 is at 23:59:40
abbrev pub evening : ℕ
evening = 7775800

-- selected at 23:59:50, in tick 100: it counts from the midnight before, on and on
goes_on_at_midnight : shift 1100 (midnight_at (Some evening) 100) ∷ map (since_midnight evening 100) (100 ∷ 199 ∷ 200 ∷ 201 ∷ []) ≡ 300 ∷ 863900 ∷ 863999 ∷ 864000 ∷ 864001 ∷ []
goes_on_at_midnight = refl

-- selected at 0:00:10, in tick 300: it counts from tick 200
selected_after_midnight : shift 1100 (midnight_at (Some evening) 300) ∷ map (since_midnight evening 300) (300 ∷ 301 ∷ []) ≡ 900 ∷ 100 ∷ 101 ∷ []
selected_after_midnight = refl

-- ## A pattern of the built-in plan, with a cycle of 80 s and no offset: in tick 100 at 23:59:50 it is at 700, as 863,900 tenths
-- are 1079 cycles and 70 s; without a clock at 100

abbrev pub selected_at : Option ℕ → ℕ → Option ℕ
selected_at start now = local_now quad (Some 1) (selected_correction quad (Some 1) now (midnight_at start now) None) now

is_at_700 : selected_at (Some evening) 100 ∷ selected_at None 100 ∷ [] ≡ Some 700 ∷ Some 100 ∷ []
unfolding quad
is_at_700 = refl
