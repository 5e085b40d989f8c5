-- Lines that the definition gives, by computing, of displays of the built-in plans and of two others.
use Rattle.std.specs.Prelude.{◌≡◌, ℕ, ◌==◌, if◌then◌else◌, true, List, [], ◌∷◌, codes, Option, Some, None, refl}
use Rattle.tsb_types.specs.declared.interval.Interval.TheVariants as intervals
use Rattle.tsb_types.specs.declared.interval.PedestrianInterval.{PedestrianInterval}
use Rattle.tsb_types.specs.declared.interval.PedestrianInterval.TheVariants as pedestrian_intervals
use Rattle.tsb_types.specs.declared.lamp.Aspect.TheVariants.{Green, FlashingYellow}
use Rattle.tsb_types.specs.Lists.{run_from}
use Rattle.tsb_heads.specs.tsb_plan.declared.object.Object.TheVariants.{PhaseEnabled, PhaseWalk}
use Rattle.tsb_heads.specs.tsb_plan.Plan.{Plan, empty, with_value, with_values}
use Rattle.tsb_heads.specs.tsb_plan.Two.{two}
use Rattle.tsb_heads.specs.tsb_plan.Quad.{quad}
use Rattle.tsb_heads.specs.Heads.{Shown}
use Rattle.tsb_heads.specs.Overlaps.{is_kept_green, is_on_yellow, has_green_modifier, has_yellow_modifier, is_on_last_yellow}
use Rattle.tsb_heads.specs.Displays.{display}
use Rattle.tsb_heads.proofs.Examples.Examples as heads
use Rattle.tsb_heads.proofs.Examples.Examples.{two_in, through, committed}
use Rattle.tsb_display_text.specs.Line.{line_of}

-- what a computed line opens
unfoldable pub opened : Unit {0}
unfolding run_from two quad heads.plan heads.arrowed is_kept_green is_on_yellow has_green_modifier has_yellow_modifier is_on_last_yellow line_of
opened = tt

-- the line at tick n of what the controller shows, with the preempt in service and the local counter
abbrev pub line_with : ℕ → Plan → Shown → Option ℕ → Option ℕ → List ℕ
line_with n plan s preempt local = line_of n (display plan s) preempt local

-- that of free operation without a preempt
abbrev pub line_at : ℕ → Plan → Shown → List ℕ
line_at n plan s = line_with n plan s None None

-- ## Two phases

all_red : line_at 0 two (two_in 2 intervals.Red 4 intervals.Red) ≡ codes "0000000 -R-R------------ ---------------- ---- 0 ----"
unfolding opened
all_red = refl

green : line_at 1 two (two_in 2 intervals.Green 4 intervals.Red) ≡ codes "0000001 -G-R------------ ---------------- ---- 0 ----"
unfolding opened
green = refl

yellow : line_at 101 two (two_in 2 intervals.Yellow 4 intervals.Red) ≡ codes "0000101 -Y-R------------ ---------------- ---- 0 ----"
unfolding opened
yellow = refl

-- all seven digits, at the last tick
last_tick : line_at 6000000 two (two_in 2 intervals.RedClear 4 intervals.Red)
    ≡ codes "6000000 -R-R------------ ---------------- ---- 0 ----"
unfolding opened
last_tick = refl

-- with a walk on 2
walks_on_2 : line_at 1 (with_value two PhaseWalk 2 4) (record (two_in 2 intervals.Green 4 intervals.Red) {
  pedestrian = λ p. if p == 2 then pedestrian_intervals.Walk else pedestrian_intervals.DontWalk;
}) ≡ codes "0000001 -G-R------------ -W-------------- ---- 0 ----"
unfolding opened
walks_on_2 = refl

-- ## Eight phases, the second with a walk, and an overlap of 1 and 2

green_of_2_and_6 : line_at 170 quad through ≡ codes "0000170 RGRRRGRR-------- -D-------------- G--- 0 ----"
unfolding opened
green_of_2_and_6 = refl

yellow_of_2_and_6 : line_at 171 quad (committed 1 3 (committed 2 8 (two_in 2 intervals.Yellow 6 intervals.Yellow)))
    ≡ codes "0000171 RYRRRYRR-------- -D-------------- Y--- 0 ----"
unfolding opened
yellow_of_2_and_6 = refl

green_of_3_and_8 : line_at 211 quad (two_in 3 intervals.Green 8 intervals.Green)
    ≡ codes "0000211 RRGRRRRG-------- -D-------------- R--- 0 ----"
unfolding opened
green_of_3_and_8 = refl

-- with preempt 1 in service, 1 is in red clearance and ring 1 is committed to 2: the overlap stays green
clearing_for_preempt : line_with 85 quad (committed 1 2 (two_in 1 intervals.RedClear 6 intervals.Green)) (Some 1) None
    ≡ codes "0000085 RRRRRGRR-------- -D-------------- G--- 1 ----"
unfolding opened
clearing_for_preempt = refl

-- ## Pedestrians

abbrev pub part_of_2 : PedestrianInterval → Shown
part_of_2 part = record through { pedestrian = λ p. if p == 2 then part else pedestrian_intervals.DontWalk }

walk : line_at 1 quad (part_of_2 pedestrian_intervals.Walk) ≡ codes "0000001 RGRRRGRR-------- -W-------------- G--- 0 ----"
unfolding opened
walk = refl

clearance : line_at 41 quad (part_of_2 pedestrian_intervals.PedestrianClear)
    ≡ codes "0000041 RGRRRGRR-------- -C-------------- G--- 0 ----"
unfolding opened
clearance = refl

clearance_for_preempt : line_with 70 quad (part_of_2 pedestrian_intervals.PedestrianClear) (Some 2) None
    ≡ codes "0000070 RGRRRGRR-------- -C-------------- G--- 2 ----"
unfolding opened
clearance_for_preempt = refl

-- ## Preempts

in_service : line_with 111 quad (two_in 4 intervals.Green 7 intervals.Green) (Some 2) None
    ≡ codes "0000111 RRRGRRGR-------- -D-------------- R--- 2 ----"
unfolding opened
in_service = refl

-- ## The local counter

local_counter : line_with 759 quad through None (Some 759) ≡ codes "0000759 RGRRRGRR-------- -D-------------- G--- 0 0759"
unfolding opened
local_counter = refl

local_zero : line_with 800 quad (two_in 3 intervals.Green 8 intervals.Green) None (Some 0)
    ≡ codes "0000800 RRGRRRRG-------- -D-------------- R--- 0 0000"
unfolding opened
local_zero = refl

-- the greatest that there is: a cycle has 255 seconds at most
local_end : line_with 2549 quad through None (Some 2549) ≡ codes "0002549 RGRRRGRR-------- -D-------------- G--- 0 2549"
unfolding opened
local_end = refl

-- ## Flash

flash : line_at 60 quad (record through { tripped = true }) ≡ codes "0000060 FFFFFFFF-------- ---------------- F--- 0 ----"
unfolding opened
flash = refl

-- a preempt and a pattern are written in flash too
flash_in_service : line_with 251 quad (record through { tripped = true }) (Some 1) None
    ≡ codes "0000251 FFFFFFFF-------- ---------------- F--- 1 ----"
unfolding opened
flash_in_service = refl

after_reset : line_at 61 quad (two_in 1 intervals.Red 5 intervals.Red)
    ≡ codes "0000061 RRRRRRRR-------- -D-------------- R--- 0 ----"
unfolding opened
after_reset = refl

-- ## Sixteen phases

unfoldable pub far : Plan
far = with_values empty ((PhaseEnabled, 2, 1) ∷ (PhaseEnabled, 4, 1) ∷ (PhaseEnabled, 10, 1) ∷ (PhaseEnabled, 12, 1) ∷ [])

green_of_4 : line_at 141 far (two_in 4 intervals.Green 10 intervals.Red) ≡ codes "0000141 -R-G-----R-R---- ---------------- ---- 0 ----"
unfolding opened far
green_of_4 = refl

green_of_12 : line_at 281 far (two_in 4 intervals.Red 12 intervals.Green) ≡ codes "0000281 -R-R-----R-G---- ---------------- ---- 0 ----"
unfolding opened far
green_of_12 = refl

-- ## Overlap 2 is minusGreenYellow, with phase 6 as modifier

modified : line_at 91 heads.plan through ≡ codes "0000091 RGRRRGRR-------- -D-------------- GR-- 0 ----"
unfolding opened
modified = refl

-- ## Overlap 2 flashes yellow, an arrow whose turn is phase 1, and overlap 1, which trails, is green after its phases

arrow_and_trail : line_at 91 heads.arrowed (record (two_in 2 intervals.Green 6 intervals.Green) {
  light = λ o. if o == 1 then Green else FlashingYellow;
}) ≡ codes "0000091 RGRRRGRR-------- -D-------------- GP-- 0 ----"
unfolding opened
arrow_and_trail = refl

arrow_in_flash : line_at 92 heads.arrowed (record (two_in 2 intervals.Green 6 intervals.Green) {
  light = λ o. FlashingYellow;
  tripped = true;
}) ≡ codes "0000092 FFFFFFFF-------- ---------------- FF-- 0 ----"
unfolding opened
arrow_in_flash = refl
