-- How the local counter comes into step once a pattern is selected while another one ran: the modes of
-- coordCorrectionMode (NTCIP 1202 has them as dwell, shortway and addOnly), with coordCorrectionLimit for how much of
-- it a cycle is made longer or shorter meanwhile. How the counter goes is the profile's own. Times are in ticks, which
-- are tenths of a second.
--
-- In step the local counter is that of the cycle and the offset, `counter`, of the ticks since tick number 0, or since a
-- midnight where a clock is set. With mode 0, and from free operation, it is in step at once. Otherwise it goes on from where that of the old pattern stood, so many ticks ahead of the one in
-- step, round the cycle. How many it still is in a later tick is found from these two numbers and the plan, so that no
-- tick has to change the state.
use Rattle.std.specs.Prelude.{ℕ, ◌+◌, ◌-◌, ◌*◌, ◌/◌, ◌%◌, ◌==◌, nat_le, Bool, ◌&&◌, ◌||◌, if◌then◌else◌, min, max, Option, Some, None, false}
use Rattle.tsb_objects.specs.tsb_plan.declared.plan.patterns.CorrectionMode.{CorrectionMode}
use Rattle.tsb_objects.specs.tsb_plan.declared.plan.patterns.CorrectionMode.TheVariants.{AtOnce, Dwell, ShortWay, AddOnly}
use Rattle.tsb_objects.specs.tsb_plan.Plan.{Plan}
use Rattle.tsb_objects.specs.tsb_plan.Parts.{cycle, correction_mode, correction_limit}
use Rattle.tsb_objects.specs.tsb_plan.Running.{running}
use Rattle.tsb_coord.specs.Coordinated.{counter, local, residue_of_difference, asks_force_off, asks_recycle, is_at_force_off}
use Rattle.tsb_objects.specs.Instants.{waiting_point}
use Rattle.tsb_coord.specs.Clock.{shift}
-- re-exported: the tick number at which the pattern was selected, and how many ticks its local counter was ahead then;
-- none ahead is in step; and the midnight that it counts from
pub use Rattle.tsb_coord.specs.declared.correction.Correction.{Correction}

-- in step from the start: at power-up, after a reset, and in free operation
abbrev pub in_step : Correction
in_step = record { since = 0; ahead = 0; midnight = 0 }

-- the same, with this midnight
abbrev pub in_step_from : ℕ → Correction
in_step_from midnight = record in_step { midnight = midnight }

-- ## How far it has come, so many ticks after the selection

-- with this limit a cycle that is made longer loses so many ticks, evenly: the counter waits in them
abbrev pub lost : ℕ → ℕ → ℕ
lost limit ticks = ticks * limit / (100 + limit)

-- one that is made shorter gains so many: the counter takes two steps in them
abbrev pub gained : ℕ → ℕ → ℕ
gained limit ticks = ticks * limit / (100 - limit)

-- for how long it waits in a cycle of m: by the limit, a tick at least; with limit 0 for as long as it takes
abbrev pub longest_wait : ℕ → ℕ → ℕ
longest_wait limit m = if limit == 0 then m else max 1 (m * limit / 100)

-- so many ticks after it first came there: there it waits for `most`, and it comes there again a cycle of m on
abbrev pub waited : ℕ → ℕ → ℕ → ℕ
waited m most ticks = ticks / (m + most) * most + min most (ticks % (m + most))

-- by how many ticks the counter of pattern n is further than one that counts from tick number 0
abbrev pub shift_of : Plan → ℕ → Correction → ℕ
shift_of plan n c = shift (cycle plan n) c.midnight

-- how many ticks it takes to where it waits from where it stood at the selection
abbrev pub way : Plan → ℕ → Correction → ℕ
way plan n c = residue_of_difference (cycle plan n) (waiting_point plan n) (counter plan n (c.since + shift_of plan n c) + c.ahead)

-- ## How far it is ahead

-- it is slower by so many ticks, and in step once these are all that it was ahead
abbrev pub slower : ℕ → ℕ → ℕ
slower ahead ticks = ahead - ticks

-- it is faster, and in step once it is a whole cycle of m ahead
abbrev pub faster : ℕ → ℕ → ℕ → ℕ
faster m ahead ticks = (ahead + min (m - ahead) ticks) % m

-- the short way is the slower one where the counter is at most half a cycle of m ahead
abbrev pub is_slower_way : ℕ → ℕ → Bool
is_slower_way m ahead = nat_le (2 * ahead) m

-- slower or faster, by the limit
abbrev pub by_short_way : ℕ → ℕ → ℕ → ℕ → ℕ
by_short_way m limit ahead ticks =
    if is_slower_way m ahead then slower ahead (lost limit ticks) else faster m ahead (gained limit ticks)

-- in pattern n, so many ticks after the selection, by each mode
abbrev pub ahead_by : CorrectionMode → Plan → ℕ → Correction → ℕ → ℕ
ahead_by AtOnce plan n c ticks = 0
ahead_by Dwell plan n c ticks =
    slower c.ahead (waited (cycle plan n) (longest_wait (correction_limit plan) (cycle plan n)) (ticks - way plan n c))
ahead_by ShortWay plan n c ticks = by_short_way (cycle plan n) (correction_limit plan) c.ahead ticks
ahead_by AddOnly plan n c ticks = slower c.ahead (lost (correction_limit plan) ticks)

-- within the cycle, also of one that a commit has made shorter since
abbrev pub within_cycle : Plan → ℕ → Correction → Correction
within_cycle plan n c = record c { ahead = c.ahead % cycle plan n }

-- in tick t, where this pattern runs; none in free operation
abbrev pub ahead_in : Plan → Option ℕ → Correction → ℕ → ℕ
ahead_in plan None c t = 0
ahead_in plan (Some n) c t = ahead_by (correction_mode plan) plan n (within_cycle plan n c) (t - c.since)

-- ## The local counter as it goes, of the pattern that is selected, where it runs

-- by how many ticks that of the pattern that runs is further, if one runs
abbrev pub shift_in : Plan → Option ℕ → Correction → ℕ
shift_in plan None c = 0
shift_in plan (Some n) c = shift_of plan n c

-- the tick in which one that counts from tick number 0 is where the counter in step is in tick t: t without a clock
abbrev pub clocked : Plan → Option ℕ → Correction → ℕ → ℕ
clocked plan selected c t = t + shift_in plan (running plan selected) c

-- and in which it is where the local counter is in tick t: as many later as it is ahead
abbrev pub counted_tick : Plan → Option ℕ → Correction → ℕ → ℕ
counted_tick plan selected c t = clocked plan selected c t + ahead_in plan (running plan selected) c t

-- the local counter itself; none in free operation
abbrev pub local_now : Plan → Option ℕ → Correction → ℕ → Option ℕ
local_now plan selected c t = local plan (counted_tick plan selected c t) selected

-- that of pattern n takes two steps in tick t: it is a tick further ahead than in the tick before
abbrev pub steps_twice_in : Plan → Option ℕ → Correction → ℕ → Bool
steps_twice_in plan None c t = false
steps_twice_in plan (Some n) c t = ahead_in plan (Some n) c t == (ahead_in plan (Some n) c (t - 1) + 1) % cycle plan n

-- that of pattern n takes no step in tick t: it is a tick less far ahead than in the tick before
abbrev pub stays_in : Plan → ℕ → Correction → ℕ → Bool
stays_in plan n c t = ahead_in plan (Some n) c (t - 1) == ahead_in plan (Some n) c t + 1

-- of the pattern that runs
abbrev pub steps_twice : Plan → Option ℕ → Correction → ℕ → Bool
steps_twice plan selected c t = steps_twice_in plan (running plan selected) c t

-- p is forced off where the local counter is in tick t, or where it takes two steps at the first of them
abbrev pub forces : Plan → Option ℕ → Correction → ℕ → ℕ → Bool
forces plan selected c t p =
    asks_force_off plan (counted_tick plan selected c t) selected p ||
    (steps_twice plan selected c t && asks_force_off plan (counted_tick plan selected c t - 1) selected p)

-- it is at the force-off instant of p, or takes two steps and was there at the first
abbrev pub comes_to_force_off : Plan → Option ℕ → Correction → ℕ → ℕ → Bool
comes_to_force_off plan selected c t p =
    is_at_force_off plan (counted_tick plan selected c t) selected p ||
    (steps_twice plan selected c t && is_at_force_off plan (counted_tick plan selected c t - 1) selected p)

-- it is in step in tick t; once it is it stays so
abbrev pub is_in_step : Plan → Option ℕ → Correction → ℕ → Bool
is_in_step plan selected c t = ahead_in plan (running plan selected) c t == 0

-- p may walk again in tick t: the local counter was in step before it, as by a faster one the instant comes sooner
abbrev pub lets_walk_again : Plan → Option ℕ → Correction → ℕ → ℕ → Bool
lets_walk_again plan selected c t p = is_in_step plan selected c (t - 1) && asks_recycle plan (clocked plan selected c t) selected p

-- ## What a selection makes of it

-- none where it is in step at once
abbrev pub ahead_with : CorrectionMode → ℕ → ℕ
ahead_with AtOnce ahead = 0
ahead_with Dwell ahead = ahead
ahead_with ShortWay ahead = ahead
ahead_with AddOnly ahead = ahead

-- how many ticks pattern n is ahead where its counter goes on from that of the old pattern, if one ran, within its
-- cycle; in step it is where one from tick number 0 is in tick `t`
abbrev pub ahead_from : Plan → ℕ → ℕ → Option ℕ → ℕ
ahead_from plan n t None = 0
ahead_from plan n t (Some l) =
    ahead_with (correction_mode plan) (residue_of_difference (cycle plan n) (l % cycle plan n) (counter plan n t))

-- one that is not ahead is in step
abbrev pub begun : ℕ → ℕ → ℕ → Correction
begun now midnight ahead = if ahead == 0 then in_step_from midnight else record { since = now; ahead = ahead; midnight = midnight }

-- with this midnight, in tick `now`, in which the old pattern's local counter was this, if it ran; free operation has
-- none. A clock that is set selects the same pattern with another midnight
abbrev pub selected_correction : Plan → Option ℕ → ℕ → ℕ → Option ℕ → Correction
selected_correction plan None now midnight l = in_step
selected_correction plan (Some n) now midnight l = begun now midnight (ahead_from plan n (now + shift (cycle plan n) midnight) l)
