-- Where the local counter is once a phase that is forced off in time has ended its yellow change and red clearance; the
-- phases and modes of late force-off and of the permissive time; how the local counter comes into step; and that the
-- cells of coordination are those of what they say. Each law here is the contract of a function in src/laws.rt, and
-- proved there.
use Rattle.std.specs.Prelude.{◌≡◌, ◌≢◌, ℕ, ◌+◌, ◌-◌, ◌*◌, ◌/◌, ◌%◌, ◌<◌, ◌≤◌, true, false, ◌||◌, List, Option, Some, None, IfSome}
use Rattle.tsb_objects.specs.tsb_plan.Plan.{Plan, yellow_change, red_clear}
use Rattle.tsb_objects.specs.tsb_plan.declared.plan.patterns.CorrectionMode.{CorrectionMode}
use Rattle.tsb_objects.specs.tsb_plan.declared.plan.patterns.CorrectionMode.TheVariants.{AtOnce, Dwell, ShortWay, AddOnly}
use Rattle.tsb_objects.specs.tsb_plan.Parts.{cycle, permissive_time, leads_and_lags, forces_late, correction_mode, correction_limit}
use Rattle.tsb_objects.specs.tsb_plan.Running.{running, is_coordinated_now}
use Rattle.tsb_objects.specs.tsb_rules.Consistent.{IsPhase}
use Rattle.tsb_objects.specs.tsb_types.declared.limits.TheConstants.{TICKS}
use Rattle.tsb_objects.specs.tsb_types.declared.clock_time.TheConstants.{DAY, FIRST_MOMENT, LAST_DAY}
use Rattle.tsb_coord.specs.Cells.{pattern_in, correction_in, start_in, pattern_cells, IsBy}
use Rattle.tsb_coord.specs.Clock.{midnight_at, shift}
use Rattle.tsb_coord.specs.Correction.{Correction, longest_wait, way, is_slower_way, clocked, local_now, forces, is_in_step, selected_correction}
use Rattle.tsb_coord.specs.Coordinated.{counter, local, residue_of_difference, end_of, reference, is_at_force_off, is_in_permissive_time, asks_force_off, yields_to, is_pattern}

-- the tick at which p has ended its yellow change and red clearance, if its green ended in tick t
abbrev pub clear_of : Plan → ℕ → ℕ → ℕ
clear_of plan t p = t + yellow_change plan p + red_clear plan p

-- the local counter of pattern n is 0 at the end of the split of c, from which instants are counted: c is a coordinated
-- phase, and where the pattern leads and lags the one that instants are counted from; else it is any
pub record IsCountedFrom (plan : Plan) (n c : ℕ) : Type 0 where
  pub is_phase : IsPhase plan c
  pub is_one : is_coordinated_now plan (Some n) c ≡ true
  pub counted : leads_and_lags plan n ≡ true → reference plan n ≡ Some c

-- that of a phase whose green ends at its force-off instant is the tick at which its split ends, counted from the end
-- of the split of c
abbrev pub EndWithTheirSplits : Plan → Type 0
EndWithTheirSplits plan = (n t p c : ℕ) → is_pattern plan n ≡ true → is_at_force_off plan t (Some n) p ≡ true → IsCountedFrom plan n c →
    local plan (clear_of plan t p) (Some n) ≡ Some (residue_of_difference (cycle plan n) (end_of plan n p) (end_of plan n c))

-- so that of such a coordinated phase is at local 0, which is any where the pattern does not lead and lag
abbrev pub CoordinatedEndAtZero : Plan → Type 0
CoordinatedEndAtZero plan = (n t p : ℕ) → is_pattern plan n ≡ true → IsCountedFrom plan n p →
    is_at_force_off plan t (Some n) p ≡ true → local plan (clear_of plan t p) (Some n) ≡ Some 0

-- the local counter of pattern n is at most so many ticks after this one
abbrev pub IsAtMostBehind : Plan → ℕ → ℕ → ℕ → Option ℕ → Type 0
IsAtMostBehind plan n from most at = (k : ℕ) × ((k ≤ most) × (at ≡ Some ((from + k) % cycle plan n)))

-- in each mode that of a coordinated phase, whenever it is forced off, is where its split ends, or behind by its
-- permissive time at most
abbrev pub CoordinatedEndInTime : Plan → Type 0
CoordinatedEndInTime plan = (n t p c : ℕ) → is_pattern plan n ≡ true → is_coordinated_now plan (Some n) p ≡ true →
    asks_force_off plan t (Some n) p ≡ true → IsCountedFrom plan n c →
    IsAtMostBehind plan n (residue_of_difference (cycle plan n) (end_of plan n p) (end_of plan n c)) (permissive_time plan n)
    (local plan (clear_of plan t p) (Some n))

-- so that of one that instants are counted from is at local 0, or behind by its permissive time at most
abbrev pub CoordinatedEndNearZero : Plan → Type 0
CoordinatedEndNearZero plan = (n t p : ℕ) → is_pattern plan n ≡ true → IsCountedFrom plan n p →
    asks_force_off plan t (Some n) p ≡ true →
    IsAtMostBehind plan n 0 (permissive_time plan n) (local plan (clear_of plan t p) (Some n))

-- ## Late force-off and the permissive time

-- with coordForceMode 0 each phase is forced off at its instant and in its permissive time alone
abbrev pub AtInstantsInMode0 : Plan → Type 0
AtInstantsInMode0 plan = (t : ℕ) (selected : Option ℕ) (p : ℕ) → forces_late plan ≡ false →
    asks_force_off plan t selected p ≡ (is_at_force_off plan t selected p || is_in_permissive_time plan t selected p)

-- in each mode a coordinated phase is
abbrev pub CoordinatedAtInstants : Plan → Type 0
CoordinatedAtInstants plan = (t : ℕ) (selected : Option ℕ) (p : ℕ) → is_coordinated_now plan (running plan selected) p ≡ true →
    asks_force_off plan t selected p ≡ (is_at_force_off plan t selected p || is_in_permissive_time plan t selected p)

-- a phase that is not coordinated has no permissive time
abbrev pub OthersAreNotPermitted : Plan → Type 0
OthersAreNotPermitted plan = (t : ℕ) (selected : Option ℕ) (p : ℕ) → is_coordinated_now plan (running plan selected) p ≡ false →
    is_in_permissive_time plan t selected p ≡ false

-- nor has any phase of a pattern whose permissive time is 0
abbrev pub NoneIsPermittedWithout : Plan → Type 0
NoneIsPermittedWithout plan = (t : ℕ) (selected : Option ℕ) (n p : ℕ) → running plan selected ≡ Some n → permissive_time plan n ≡ 0 →
    is_in_permissive_time plan t selected p ≡ false

-- in each mode no phase misses its instant
abbrev pub ForcedAtInstants : Plan → Type 0
ForcedAtInstants plan = (t : ℕ) (selected : Option ℕ) (p : ℕ) → is_at_force_off plan t selected p ≡ true →
    asks_force_off plan t selected p ≡ true

-- at the instant of the coordinated phase that it yields to, a phase is not late: it is forced off only where that is
-- its own instant, or in its permissive time
abbrev pub EndsWhereItYields : Plan → Type 0
EndsWhereItYields plan = (n t p c : ℕ) → is_pattern plan n ≡ true → yields_to plan n p ≡ Some c →
    is_at_force_off plan t (Some n) c ≡ true →
    asks_force_off plan t (Some n) p ≡ (is_at_force_off plan t (Some n) p || is_in_permissive_time plan t (Some n) p)

-- ## Coming into step

-- how many steps the local counter takes in a tick at most
abbrev pub most_steps : CorrectionMode → ℕ
most_steps AtOnce = 1
most_steps Dwell = 1
most_steps ShortWay = 2
most_steps AddOnly = 1

-- it takes no more from each tick to the next, so that it does not jump; a limit is 50 percent at most
abbrev pub TakesFewSteps : Plan → Type 0
TakesFewSteps plan = (n : ℕ) (c : Correction) (t l : ℕ) → is_pattern plan n ≡ true → correction_limit plan ≤ 50 →
    local_now plan (Some n) c t ≡ Some l →
    IsAtMostBehind plan n l (most_steps (correction_mode plan)) (local_now plan (Some n) c (t + 1))

-- nor where it is selected, but with mode 0: it goes on from where that of the old pattern stood, within the new cycle
abbrev pub GoesOn : Plan → Type 0
GoesOn plan = (n now midnight l : ℕ) → is_pattern plan n ≡ true → correction_mode plan ≢ AtOnce →
    local_now plan (Some n) (selected_correction plan (Some n) now midnight (Some l)) now ≡ Some (l % cycle plan n)

-- in tick t it is in step: it is that of the cycle and the offset, which without a clock counts from tick number 0
pub record CountsInStep (plan : Plan) (selected : Option ℕ) (c : Correction) (t : ℕ) : Type 0 where
  pub there : is_in_step plan selected c t ≡ true
  pub counts : local_now plan selected c t ≡ local plan (clocked plan selected c t) selected

-- once it is in step it stays so
abbrev pub StaysInStep : Plan → Type 0
StaysInStep plan = (selected : Option ℕ) (c : Correction) (t u : ℕ) → is_in_step plan selected c t ≡ true → t ≤ u →
    CountsInStep plan selected c u

-- from the next tick on a phase is forced off as by the counter in step
abbrev pub ForcesInStep : Plan → Type 0
ForcesInStep plan = (selected : Option ℕ) (c : Correction) (t p : ℕ) → is_in_step plan selected c (t - 1) ≡ true →
    forces plan selected c t p ≡ asks_force_off plan (clocked plan selected c t) selected p

-- so many ticks are enough for a slower counter
abbrev pub HasLostAll : Plan → Correction → ℕ → Type 0
HasLostAll plan c ticks = c.ahead * (100 + correction_limit plan) ≤ ticks * correction_limit plan

-- and for a faster one
abbrev pub HasGainedAll : Plan → ℕ → Correction → ℕ → Type 0
HasGainedAll plan n c ticks = (cycle plan n - c.ahead) * (100 - correction_limit plan) ≤ ticks * correction_limit plan

-- for one that waits in a cycle of m for `most`, so many from where it first waits on: whole cycles and waits, and the
-- rest of a wait
abbrev pub waits : ℕ → ℕ → ℕ → ℕ
waits m most ahead = (ahead - 1) / most * (m + most) + ((ahead - 1) % most + 1)

-- in each mode
abbrev pub IsLongEnough : CorrectionMode → Plan → ℕ → Correction → ℕ → Type 0
IsLongEnough AtOnce plan n c ticks = 0 ≤ ticks
IsLongEnough Dwell plan n c ticks =
    way plan n c + waits (cycle plan n) (longest_wait (correction_limit plan) (cycle plan n)) c.ahead ≤ ticks
IsLongEnough ShortWay plan n c ticks =
    (is_slower_way (cycle plan n) c.ahead ≡ true → HasLostAll plan c ticks)
    × (is_slower_way (cycle plan n) c.ahead ≡ false → HasGainedAll plan n c ticks)
IsLongEnough AddOnly plan n c ticks = HasLostAll plan c ticks

-- then the counter is in step
abbrev pub ComesIntoStep : Plan → Type 0
ComesIntoStep plan = (n : ℕ) (c : Correction) (t : ℕ) → is_pattern plan n ≡ true → correction_limit plan ≤ 50 → c.ahead < cycle plan n →
    IsLongEnough (correction_mode plan) plan n c (t - c.since) → is_in_step plan (Some n) c t ≡ true

-- ## The clock

-- without a clock a counter counts from tick number 0
abbrev pub CountsFromTick0 : Plan → Type 0
CountsFromTick0 plan = (selected : Option ℕ) (c : Correction) (now t : ℕ) → c.midnight ≡ midnight_at None now →
    clocked plan selected c t ≡ t

-- the tenths since the midnight at or before tick number `now`, in tick t; tick number 0 is at the moment `start`
abbrev pub since_midnight : ℕ → ℕ → ℕ → ℕ
since_midnight start now t = (start + now) % DAY + (t - now)

-- with one the counter in step is that of the tenths since the midnight at or before the tick in which the pattern is
-- selected, or the clock set: those less the offset, within the cycle
abbrev pub CountsFromMidnight : Plan → Type 0
CountsFromMidnight plan = (n start now t : ℕ) → is_pattern plan n ≡ true → now ≤ TICKS → now ≤ t →
    counter plan n (t + shift (cycle plan n) (midnight_at (Some start) now)) ≡ counter plan n (since_midnight start now t)

-- so where tick number 0 is at a midnight, nothing changes for what is selected on that day
abbrev pub CountsAlike : Plan → Type 0
CountsAlike plan = (n day now t : ℕ) → is_pattern plan n ≡ true → now < DAY → now ≤ t →
    counter plan n (t + shift (cycle plan n) (midnight_at (Some (day * DAY)) now)) ≡ counter plan n t

-- ## The cells

-- a row that coordination can hold is the table of what it says
abbrev pub RowsAreTold : Type 0
RowsAreTold = (row : List ℕ) → IsBy row → pattern_cells (pattern_in row) (correction_in row) (start_in row) ≡ row

-- a pattern that can be selected, if one is, is one of 1 to 16
pub record IsSelectable (selected : Option ℕ) : Type 0 where
  pub from_one : (n : ℕ) → selected ≡ Some n → 1 ≤ n
  pub within : (n : ℕ) → selected ≡ Some n → n ≤ 16

-- how a local counter can come into step: since a tick that there is, and less than a cycle ahead
pub record IsCorrectable (c : Correction) : Type 0 where
  pub since : c.since ≤ TICKS
  pub ahead : c.ahead ≤ 2550
  pub midnight : c.midnight < FIRST_MOMENT + DAY

-- the moment that tick number 0 can have, if a clock is set: one of the days that are counted
abbrev pub IsStart : Option ℕ → Type 0
IsStart start = IfSome start (λ m. (1 ≤ m) × (m < (LAST_DAY + 1) * DAY))

-- the table of such a pattern, of how its counter comes into step, and of such a clock is read as these
pub record AreRead (selected : Option ℕ) (c : Correction) (first : Option ℕ) : Type 0 where
  pub pattern : pattern_in (pattern_cells selected c first) ≡ selected
  pub correction : correction_in (pattern_cells selected c first) ≡ c
  pub start : start_in (pattern_cells selected c first) ≡ first

-- so of each
abbrev pub StatesAreRead : Type 0
StatesAreRead = (selected : Option ℕ) (c : Correction) (start : Option ℕ) → IsSelectable selected → IsStart start →
    AreRead selected c start

-- and is a row that coordination can hold: it can keep the selection of each pattern from 1 to 16, and of none
abbrev pub StatesAreBy : Type 0
StatesAreBy = (selected : Option ℕ) (c : Correction) (start : Option ℕ) → IsSelectable selected → IsCorrectable c → IsStart start →
    IsBy (pattern_cells selected c start)
