-- What an overlap is in that has intervals of its own, and what a tick makes of it. A flashing yellow arrow is green with
-- its protected turn, and flashes with the phases that oppose it. An overlap that trails stays green after its phases,
-- and has then a yellow and a red clearance of its own. Trailing times are those of NTCIP 1202, the arrow is that of the
-- MUTCD; when each begins and ends is the profile's own.
--
-- "Was" is before this tick. Below, `x` is the overlap as the tick reads it: a timer that was On n is On (n + 1).
use Rattle.std.specs.Prelude.{ℕ, ◌+◌, ◌-◌, ◌==◌, max, Bool, true, false, not, ◌&&◌, ◌||◌, if◌then◌else◌, Option, Some, None}
use Rattle.std.specs.List.{list_any}
use Rattle.tsb_cells.specs.declared.timer.Timer.{Timer}
use Rattle.tsb_cells.specs.declared.timer.Timer.TheVariants.{Off, On}
use Rattle.tsb_cells.specs.Timer.{advanced, has_reached}
use Rattle.tsb_objects.specs.tsb_types.Lists.{first, run_from}
use Rattle.tsb_objects.specs.tsb_types.declared.lamp.Aspect.{Aspect}
use Rattle.tsb_objects.specs.tsb_types.declared.lamp.Aspect.TheVariants as aspects
use Rattle.tsb_objects.specs.tsb_types.Intervals.{is_green, in_service, is_dont_walk}
use Rattle.tsb_objects.specs.tsb_plan.Plan.{Plan, phases, yellow_change}
use Rattle.tsb_objects.specs.tsb_plan.Parts.{is_included, is_modifier, is_arrow, trails, arrow_delay, heeds_pedestrians, trail_green, trail_yellow, trail_red}
use Rattle.tsb_heads.specs.Heads.{Shown}
use Rattle.tsb_heads.specs.Overlaps.{is_kept_green}
use Rattle.tsb_overlap.specs.declared.parts.OverlapInterval.{OverlapInterval}
use Rattle.tsb_overlap.specs.declared.parts.OverlapInterval.TheVariants.{Red, Green, TrailGreen, Flashing, Yellow, RedClear}

-- what is kept of an overlap
pub record Overlap : Type 0 where
  pub interval : OverlapInterval
  -- since its interval began, of one that is timed: trailing green, yellow, red clearance
  pub timer : Timer
  -- the phase whose yellow an arrow shows
  pub phase : Option ℕ

-- an interval that is not timed
abbrev pub standing : OverlapInterval → Overlap
standing i = record { interval = i; timer = Off; phase = None }

-- an interval that begins in this tick
abbrev pub begun : OverlapInterval → Overlap
begun i = record { interval = i; timer = On 0; phase = None }

-- the yellow of an arrow that begins in this tick, which lasts as that of phase p
abbrev pub yellow_of : ℕ → Overlap
yellow_of p = record { interval = Yellow; timer = On 0; phase = Some p }

-- red, at power-up and after a reset
abbrev pub at_power_up : Overlap
at_power_up = standing Red

-- an overlap as a tick reads it
abbrev pub as_read : Overlap → Overlap
as_read x = record x { timer = advanced x.timer }

-- what its head shows: green also while it trails, and red in red clearance
abbrev pub light : OverlapInterval → Aspect
light Red = aspects.Red
light Green = aspects.Green
light TrailGreen = aspects.Green
light Flashing = aspects.FlashingYellow
light Yellow = aspects.Yellow
light RedClear = aspects.Red

-- it is green after its phases
abbrev pub is_trail_green : OverlapInterval → Bool
is_trail_green Red = false
is_trail_green Green = false
is_trail_green TrailGreen = true
is_trail_green Flashing = false
is_trail_green Yellow = false
is_trail_green RedClear = false

-- ## As a tick begins: what has lasted its time is over

-- a trailing green is over with its time, and at once while a preempt is in service; then comes the yellow
abbrev pub trail_green_on : Plan → ℕ → Bool → Overlap → Overlap
trail_green_on plan o preempted x =
    if preempted || has_reached x.timer (trail_green plan o) then begun Yellow else x

-- the yellow of an overlap that trails is followed by its red clearance, if it has one
abbrev pub trail_yellow_on : Plan → ℕ → Overlap → Overlap
trail_yellow_on plan o x =
    if has_reached x.timer (trail_yellow plan o)
    then (if trail_red plan o == 0 then standing Red else begun RedClear) else x

-- after its red clearance it is off
abbrev pub trail_red_on : Plan → ℕ → Overlap → Overlap
trail_red_on plan o x = if has_reached x.timer (trail_red plan o) then standing Red else x

-- an overlap that trails, by its interval
abbrev pub trail_by : Plan → ℕ → Bool → Overlap → OverlapInterval → Overlap
trail_by plan o preempted x Red = x
trail_by plan o preempted x Green = x
trail_by plan o preempted x TrailGreen = trail_green_on plan o preempted x
trail_by plan o preempted x Flashing = x
trail_by plan o preempted x Yellow = trail_yellow_on plan o x
trail_by plan o preempted x RedClear = trail_red_on plan o x

-- the yellow of an arrow is over with the yellow change time of its phase
abbrev pub arrow_yellow_on : Plan → Overlap → Option ℕ → Overlap
arrow_yellow_on plan x None = x
arrow_yellow_on plan x (Some p) = if has_reached x.timer (yellow_change plan p) then standing Red else x

-- an arrow, by its interval
abbrev pub arrow_by : Plan → Overlap → OverlapInterval → Overlap
arrow_by plan x Red = x
arrow_by plan x Green = x
arrow_by plan x TrailGreen = x
arrow_by plan x Flashing = x
arrow_by plan x Yellow = arrow_yellow_on plan x x.phase
arrow_by plan x RedClear = x

-- overlap o as the tick begins
unfoldable pub run_on : Plan → Bool → ℕ → Overlap → Overlap
run_on plan preempted o x =
    if is_arrow plan o then arrow_by plan x x.interval else
    (if trails plan o then trail_by plan o preempted x x.interval else x)

-- ## The phases that overlaps hold in clearance

-- it trails and is not off
abbrev pub is_trailing : OverlapInterval → Bool
is_trailing Red = false
is_trailing Green = false
is_trailing TrailGreen = true
is_trailing Flashing = false
is_trailing Yellow = true
is_trailing RedClear = true

-- overlap o trails, is in this interval and so not off, and includes phase p
abbrev pub holds_by : Plan → ℕ → OverlapInterval → ℕ → Bool
holds_by plan o interval p = trails plan o && (is_included plan o p && is_trailing interval)

-- overlap o holds phase p in the tick that begins
abbrev pub holds : Plan → Bool → (ℕ → Overlap) → ℕ → ℕ → Bool
holds plan preempted f p o = holds_by plan o (run_on plan preempted o (as_read (f o))).interval p

-- an overlap holds phase p: in this tick it is not over, whatever its own clearance, and stays in red clearance; of the
-- overlaps as they were
unfoldable pub is_held : Plan → Bool → (ℕ → Overlap) → ℕ → Bool
is_held plan preempted f p = list_any (holds plan preempted f p) (run_from 1 plan.counts.overlaps)

-- ## After the phases have moved

-- what overlaps see then
pub record Given : Type 0 where
  -- which phases were Green
  pub was_green : ℕ → Bool
  -- intervals, pedestrian parts and commitments after the tick
  pub shown : Shown
  -- of each phase the timer of its interval after the tick
  pub timer : ℕ → Timer
  -- a preempt is in service in this tick
  pub preempted : Bool
  -- the arrows that are omitted
  pub omitted : ℕ → Bool

-- an overlap that trails may be green by its phases: it is not in its yellow, nor in its red clearance
abbrev pub may_be_kept : OverlapInterval → Bool
may_be_kept Red = true
may_be_kept Green = true
may_be_kept TrailGreen = true
may_be_kept Flashing = true
may_be_kept Yellow = false
may_be_kept RedClear = false

-- where its phases keep it green no more it trails; while a preempt is in service it has its yellow at once
abbrev pub left_alone : Given → Overlap → OverlapInterval → Overlap
left_alone given x Green = if given.preempted then begun Yellow else begun TrailGreen
left_alone given x Red = x
left_alone given x TrailGreen = x
left_alone given x Flashing = x
left_alone given x Yellow = x
left_alone given x RedClear = x

-- an overlap that trails is green while its phases keep it green, as a normal one
abbrev pub trail_settled : Plan → Given → ℕ → Overlap → Overlap
trail_settled plan given o x =
    if may_be_kept x.interval && is_kept_green plan given.shown o then standing Green else left_alone given x x.interval

-- the protected turn of an arrow: its modifier phase, the least where rule K28 does not hold
abbrev pub turn_of : Plan → ℕ → Option ℕ
turn_of plan o = first (is_modifier plan o) (phases plan)

-- phase p is what a ring serves next
abbrev pub is_number : ℕ → Option ℕ → Bool
is_number p None = false
is_number p (Some q) = q == p

-- it is in service or next
abbrev pub is_turning : Given → ℕ → Bool
is_turning given p =
    in_service (given.shown.interval p) || (is_number p (given.shown.commitment 1) || is_number p (given.shown.commitment 2))

-- phase p, which arrow o includes, is Green and has been so for its delay
abbrev pub is_open_to : Plan → Given → ℕ → ℕ → Bool
is_open_to plan given o p =
    is_included plan o p && (is_green (given.shown.interval p) && has_reached (given.timer p) (arrow_delay plan o))

-- the crosswalk of phase p, which it includes, shows walk or clearance
abbrev pub is_walked : Plan → Given → ℕ → ℕ → Bool
is_walked plan given o p = is_included plan o p && not (is_dont_walk (given.shown.pedestrian p))

-- arrow o, whose turn is t, flashes: an included phase has been Green for its delay, the turn is neither in service nor
-- next, no crosswalk forbids it, and it is not omitted
unfoldable pub may_flash : Plan → Given → ℕ → ℕ → Bool
may_flash plan given o t =
    not (given.omitted o) && (not (is_turning given t)
    && (not (heeds_pedestrians plan o && list_any (is_walked plan given o) (phases plan))
    && list_any (is_open_to plan given o) (phases plan)))

-- the yellow after flashing: that of the least included phase which was Green. In a run there is one; else that of the
-- turn
abbrev pub ended_flash : ℕ → Option ℕ → Overlap
ended_flash t None = yellow_of t
ended_flash t (Some p) = yellow_of p

-- an arrow that does not flash, by its interval
abbrev pub not_flashing : Plan → Given → ℕ → ℕ → OverlapInterval → Overlap
not_flashing plan given o t Flashing =
    ended_flash t (first (λ p. is_included plan o p && given.was_green p) (phases plan))
not_flashing plan given o t Red = standing Red
not_flashing plan given o t Green = standing Red
not_flashing plan given o t TrailGreen = standing Red
not_flashing plan given o t Yellow = standing Red
not_flashing plan given o t RedClear = standing Red

-- it flashes where it may
abbrev pub flashing_or : Plan → Given → ℕ → ℕ → Overlap → Overlap
flashing_or plan given o t x =
    if may_flash plan given o t then standing Flashing else not_flashing plan given o t x.interval

-- an arrow whose turn t is not Green: a yellow that has begun lasts its time, and a green has one
abbrev pub unturned : Plan → Given → ℕ → ℕ → Overlap → OverlapInterval → Overlap
unturned plan given o t x Yellow = x
unturned plan given o t x Green = yellow_of t
unturned plan given o t x Red = flashing_or plan given o t x
unturned plan given o t x TrailGreen = flashing_or plan given o t x
unturned plan given o t x Flashing = flashing_or plan given o t x
unturned plan given o t x RedClear = flashing_or plan given o t x

-- an arrow is green with its turn
abbrev pub arrow_settled : Plan → Given → ℕ → Overlap → Option ℕ → Overlap
arrow_settled plan given o x None = x
arrow_settled plan given o x (Some t) =
    if is_green (given.shown.interval t) then standing Green else unturned plan given o t x x.interval

-- overlap o after the phases have moved, of what it was as the tick began
unfoldable pub settled : Plan → Given → ℕ → Overlap → Overlap
settled plan given o x =
    if is_arrow plan o then arrow_settled plan given o x (turn_of plan o) else
    (if trails plan o then trail_settled plan given o x else x)

-- ## The whole tick

-- all overlaps after a tick
unfoldable pub next : Plan → Given → (ℕ → Overlap) → ℕ → Overlap
next plan given f o = settled plan given o (run_on plan given.preempted o (as_read (f o)))

-- what a timer leaves of a time, and the next tick at least
abbrev pub lasts : ℕ → Timer → ℕ
lasts time Off = time
lasts time (On n) = max 1 (time - n)

-- how long an overlap that trails holds its phases still, at most
abbrev pub trail_left : Plan → Bool → ℕ → Overlap → OverlapInterval → ℕ
trail_left plan preempted o x Red = 0
trail_left plan preempted o x Green = 0
trail_left plan preempted o x Flashing = 0
trail_left plan preempted o x TrailGreen =
    lasts (if preempted then 0 else trail_green plan o) x.timer + (trail_yellow plan o + trail_red plan o)
trail_left plan preempted o x Yellow = lasts (trail_yellow plan o) x.timer + trail_red plan o
trail_left plan preempted o x RedClear = lasts (trail_red plan o) x.timer
