-- One-line mistakes, each with an example in which it differs from the definition.
use Rattle.std.specs.Prelude.{◌≡◌, ℕ, nat_lt, Bool, true, false, not, ◌&&◌, ◌||◌, if◌then◌else◌, [], ◌∷◌, reverse, Option, Some, None, is_some, refl}
use Rattle.std.specs.List.{list_any}
use Rattle.std.specs.Option.{option_map, option_or}
use Rattle.tsb_objects.specs.tsb_types.declared.interval.Interval.TheVariants as intervals
use Rattle.tsb_objects.specs.tsb_types.declared.lamp.Aspect.{Aspect}
use Rattle.tsb_objects.specs.tsb_types.declared.lamp.Aspect.TheVariants.{Dark, Red, Yellow, Green, FlashingRed, FlashingYellow}
use Rattle.tsb_objects.specs.tsb_types.declared.lamp.SignalColor.TheVariants as signals
use Rattle.tsb_objects.specs.tsb_types.declared.lamp.PedestrianColor.TheVariants as pedestrians
use Rattle.tsb_objects.specs.tsb_types.declared.lamp.Lamp.TheVariants as lamps
use Rattle.tsb_objects.specs.tsb_types.Intervals.{is_green, is_yellow, is_red_clear}
use Rattle.tsb_objects.specs.tsb_types.Lists.{first, run_from}
use Rattle.tsb_objects.specs.tsb_plan.declared.object.Object.TheVariants.{OverlapType, OverlapModifierPhases}
use Rattle.tsb_objects.specs.tsb_plan.Plan.{Plan, phases, walk, ring_of, with_values}
use Rattle.tsb_objects.specs.tsb_plan.Parts.{is_included, is_modifier, is_arrow, includes_none}
use Rattle.tsb_objects.specs.tsb_plan.Quad.{quad}
use Rattle.tsb_objects.specs.tsb_rules.PatternRules.{some_and}
use Rattle.tsb_heads.specs.declared.monitor.Trip.{Trip}
use Rattle.tsb_heads.specs.declared.monitor.Trip.TheVariants.{Conflict, GreenToRed}
use Rattle.tsb_heads.specs.Heads.{Shown, Heads, aspect_of, vehicle_head}
use Rattle.tsb_heads.specs.Overlaps.{some_of, other_ring, comes_across, is_followed, is_kept_green, is_on_yellow, has_green_modifier, has_yellow_modifier, is_on_last_yellow, overlap_head}
use Rattle.tsb_heads.specs.Colours.{is_flashing_yellow}
use Rattle.tsb_heads.specs.Displays.{field}
use Rattle.tsb_heads.specs.Monitoring.{gives_way, lets_walk, is_green as is_green_head, has_right_of_way, has_green_arrow, has_way, conflict_of, conflict_by, conflict, is_red, goes_red, green_to_red, judge}
use Rattle.tsb_heads.proofs.Examples.Examples.{two_in, committed, through, across, to_3_and_6, crossed, arrowed, lit}

-- ## The head of a phase that is not enabled is red

abbrev pub always_lit : Plan → Shown → ℕ → Aspect
always_lit plan s p = aspect_of (s.interval p)

is_dark : vehicle_head quad through 9 ≡ Dark
unfolding quad
is_dark = refl

is_lit : always_lit quad through 9 ≡ Red
is_lit = refl

-- ## An overlap stays green through the red clearance of a phase that its ring follows, but not through its yellow

abbrev pub keeps_by_clearance : Plan → Shown → ℕ → ℕ → Bool
keeps_by_clearance plan s o p = is_green (s.interval p) || (is_red_clear (s.interval p) && is_followed plan s o p)

abbrev pub in_yellow : Shown
in_yellow = committed 1 2 (two_in 1 intervals.Yellow 6 intervals.Green)

keeps : is_kept_green quad in_yellow 1 ≡ true
unfolding quad run_from is_kept_green
keeps = refl

keeps_not : some_of quad (is_included quad 1) (keeps_by_clearance quad in_yellow 1) ≡ false
unfolding quad run_from
keeps_not = refl

-- ## An overlap stays green where any ring is committed to an included phase

abbrev pub keeps_by_any_ring : Plan → Shown → ℕ → ℕ → Bool
keeps_by_any_ring plan s o p = is_green (s.interval p) || ((is_yellow (s.interval p) || is_red_clear (s.interval p)) &&
    (some_and (is_included plan o) (s.commitment 1) || some_and (is_included plan o) (s.commitment 2)))

-- 2 is Yellow with its ring committed to 3, and the overlap includes 2 and 6
by_its_ring : is_kept_green across to_3_and_6 1 ≡ false
unfolding across quad run_from is_kept_green
by_its_ring = refl

by_any_ring : some_of across (is_included across 1) (keeps_by_any_ring across to_3_and_6 1) ≡ true
unfolding across quad run_from
by_any_ring = refl

-- ## An overlap across rings stays green where the other ring alone is committed

abbrev pub keeps_by_the_other_ring : Plan → Shown → ℕ → ℕ → Bool
keeps_by_the_other_ring plan s o p = is_green (s.interval p) || ((is_yellow (s.interval p) || is_red_clear (s.interval p)) &&
    some_and (comes_across plan o p) (s.commitment (other_ring (ring_of plan p))))

-- ring 2 is committed to 8, and 6 is Yellow still: 1, which clears to no phase, is Red before 8 is Green
abbrev pub to_8 : Shown
to_8 = committed 2 8 (two_in 1 intervals.RedClear 6 intervals.Yellow)

abbrev pub with_1_red : Shown
with_1_red = committed 2 8 (two_in 1 intervals.Red 6 intervals.Yellow)

red_before_8 : overlap_head crossed to_8 1 ≡ Red
unfolding crossed quad run_from is_kept_green is_on_yellow
red_before_8 = refl

would_be_green : some_of crossed (is_included crossed 1) (keeps_by_the_other_ring crossed to_8 1) ≡ true
unfolding crossed quad run_from
would_be_green = refl

would_drop : some_of crossed (is_included crossed 1) (keeps_by_the_other_ring crossed with_1_red 1) ≡ false
unfolding crossed quad run_from
would_drop = refl

-- ## A minusGreenYellow overlap is yellow while its ring follows with an included phase

abbrev pub yellow_at_each : Plan → Shown → ℕ → Aspect
yellow_at_each plan s o =
    if is_kept_green plan s o && not (has_green_modifier plan s o) then Green else
    (if is_on_yellow plan s o && not (has_yellow_modifier plan s o) then Yellow else Red)

-- overlap 1 of `quad`, which includes 1 and 2, with modifier phase 6
unfoldable pub minus_plan : Plan
minus_plan = with_values quad ((OverlapType, 1, 1) ∷ (OverlapModifierPhases, 1, 32) ∷ [])

red_when_followed : overlap_head minus_plan in_yellow 1 ≡ Red
unfolding minus_plan quad run_from is_kept_green has_green_modifier is_on_last_yellow
red_when_followed = refl

yellow_when_followed : yellow_at_each minus_plan in_yellow 1 ≡ Yellow
unfolding minus_plan quad run_from is_kept_green has_green_modifier is_on_yellow has_yellow_modifier
yellow_when_followed = refl

-- ## Yellow gives no right of way

abbrev pub gives_way_in_green : Aspect → Bool
gives_way_in_green Green = true
gives_way_in_green Dark = false
gives_way_in_green Red = false
gives_way_in_green Yellow = false
gives_way_in_green FlashingRed = false
gives_way_in_green FlashingYellow = false

abbrev pub yellow_on_3 : Aspect
yellow_on_3 = (field quad through (Some (lamps.Phase 3 signals.Yellow))).vehicle 3

gives : gives_way yellow_on_3 ≡ true
gives = refl

gives_not : gives_way_in_green yellow_on_3 ≡ false
gives_not = refl

-- ## Yellow to red counts as green to red

abbrev pub goes_red_from_any : Heads → Heads → ℕ → Bool
goes_red_from_any before after p = gives_way (before.vehicle p) && is_red (after.vehicle p)

abbrev pub before_red : Heads
before_red = field quad (two_in 2 intervals.Yellow 6 intervals.Yellow) None

abbrev pub after_red : Heads
after_red = field quad (two_in 2 intervals.RedClear 6 intervals.RedClear) None

from_green : goes_red before_red after_red 2 ≡ false
unfolding quad
from_green = refl

from_any : goes_red_from_any before_red after_red 2 ≡ true
unfolding quad
from_any = refl

-- ## The monitor never trips

abbrev pub never_trips : Plan → Heads → Heads → Option Trip
never_trips plan before after = None

abbrev pub before : Heads
before = field quad through None

-- 3 is green, and 2 is red: conflicts of 3 and 6, and green to red of 2
abbrev pub with_3_for_2 : Heads
with_3_for_2 = field quad (two_in 3 intervals.Green 6 intervals.Green) None

trips : judge quad before with_3_for_2 ≡ Some (Conflict 3 6)
unfolding quad run_from conflict conflict_of has_green_arrow
trips = refl

trips_not : never_trips quad before with_3_for_2 ≡ None
trips_not = refl

-- ## Green to red is judged before conflicts

abbrev pub judge_red_first : Plan → Heads → Heads → Option Trip
judge_red_first plan before after = option_or (green_to_red plan before after) (conflict plan after)

red_first : judge_red_first quad before with_3_for_2 ≡ Some (GreenToRed 2)
unfolding quad run_from green_to_red
red_first = refl

-- ## The greatest pair first

abbrev pub greatest_conflict : Plan → Heads → Option Trip
greatest_conflict plan heads =
    conflict_by plan heads (first (λ p. is_some (conflict_of plan heads p)) (reverse (phases plan)))

-- 2 and 6 are Green, and pedestrians of 3 walk: 2 and 3 are in conflict, and so are 3 and 6
abbrev pub with_walk_of_3 : Heads
with_walk_of_3 = field quad through (Some (lamps.Pedestrian 3 pedestrians.Walk))

least_pair : conflict quad with_walk_of_3 ≡ Some (Conflict 2 3)
unfolding quad run_from conflict conflict_of has_green_arrow
least_pair = refl

greatest_pair : greatest_conflict quad with_walk_of_3 ≡ Some (Conflict 3 6)
unfolding quad run_from conflict_of has_green_arrow
greatest_pair = refl

-- ## A walk counts only where the phase has one

abbrev pub right_of_way_with_walk : Plan → Heads → ℕ → Bool
right_of_way_with_walk plan heads p =
    gives_way (heads.vehicle p) || (nat_lt 0 (walk plan p) && lets_walk (heads.pedestrian p))

walk_counts : has_right_of_way with_walk_of_3 3 ≡ true
unfolding quad
walk_counts = refl

walk_counts_not : right_of_way_with_walk quad with_walk_of_3 3 ≡ false
unfolding quad
walk_counts_not = refl

-- ## Any two phases with right of way are a conflict, concurrent or not: 2 and 6 are

abbrev pub are_both : Heads → ℕ → ℕ → Bool
are_both heads p q = nat_lt p q && (has_right_of_way heads p && has_right_of_way heads q)

-- the lower phase of the least such pair
abbrev pub conflict_of_any : Plan → Heads → Option ℕ
conflict_of_any plan heads = first (λ p. is_some (first (are_both heads p) (phases plan))) (phases plan)

no_conflict : conflict quad before ≡ None
unfolding quad run_from conflict conflict_of has_green_arrow
no_conflict = refl

would_conflict : conflict_of_any quad before ≡ Some 2
unfolding quad run_from
would_conflict = refl

-- ## A plan of 17 phases: the head of phase 17 is looked at too

unfoldable pub of_17 : Plan
of_17 = record quad { phase_count = 17 }

abbrev pub with_17 : Heads
with_17 = field quad through (Some (lamps.Phase 17 signals.Green))

is_not_seen : judge quad before with_17 ≡ None
unfolding quad run_from conflict conflict_of has_green_arrow green_to_red
is_not_seen = refl

would_be_seen : judge of_17 before with_17 ≡ Some (Conflict 2 17)
unfolding of_17 quad run_from conflict conflict_of has_green_arrow
would_be_seen = refl

-- ## A red head trips, whatever it showed before

abbrev pub judge_of_red : Plan → Heads → Option Trip
judge_of_red plan after = option_or (conflict plan after) (option_map (λ p. GreenToRed p) (first (λ p. is_red (after.vehicle p)) (phases plan)))

stay : judge quad before before ≡ None
unfolding quad run_from conflict conflict_of has_green_arrow green_to_red
stay = refl

would_trip : judge_of_red quad before ≡ Some (GreenToRed 1)
unfolding quad run_from conflict conflict_of has_green_arrow
would_trip = refl

-- ## The flashing yellow of an arrow is right of way of its turn

abbrev pub is_lit_arrow_of : Plan → Heads → ℕ → ℕ → Bool
is_lit_arrow_of plan heads p o =
    is_arrow plan o && (is_modifier plan o p && (is_green_head (heads.overlap o) || is_flashing_yellow (heads.overlap o)))

abbrev pub has_lit_arrow : Plan → Heads → ℕ → Bool
has_lit_arrow plan heads p = list_any (is_lit_arrow_of plan heads p) (run_from 1 plan.counts.overlaps)

-- 2 and 6 are Green, and overlap 2 flashes, whose turn is 1
abbrev pub beside_flashing : Heads
beside_flashing = field arrowed (lit FlashingYellow through) None

flashes_beside : has_way arrowed beside_flashing 1 ≡ false
unfolding arrowed quad run_from has_green_arrow
flashes_beside = refl

would_be_unsafe : has_lit_arrow arrowed beside_flashing 1 ≡ true
unfolding arrowed quad run_from
would_be_unsafe = refl

-- ## The green of any overlap is right of way of its modifier phases

abbrev pub has_green_overlap : Plan → Heads → ℕ → Bool
has_green_overlap plan heads p = list_any (λ o. is_modifier plan o p && is_green_head (heads.overlap o)) (run_from 1 plan.counts.overlaps)

-- overlap 1 of type 1 is green beside 1 and 5, as its modifier phase 6 is not Green
abbrev pub with_minus_green : Heads
with_minus_green = field minus_plan (two_in 1 intervals.Green 5 intervals.Green) None

minus_is_green : has_way minus_plan with_minus_green 6 ≡ false
unfolding minus_plan quad run_from has_green_arrow
minus_is_green = refl

would_have_way : has_green_overlap minus_plan with_minus_green 6 ≡ true
unfolding minus_plan quad run_from is_kept_green has_green_modifier
would_have_way = refl

-- ## Each overlap that includes a phase shows a light

abbrev pub lit_head : Plan → Shown → ℕ → Aspect
lit_head plan s o = if includes_none plan o then Dark else s.light o

by_phases : overlap_head quad (lit Yellow through) 1 ≡ Green
unfolding quad run_from is_kept_green
by_phases = refl

would_be_lit : lit_head quad (lit Yellow through) 1 ≡ Yellow
unfolding quad
would_be_lit = refl
