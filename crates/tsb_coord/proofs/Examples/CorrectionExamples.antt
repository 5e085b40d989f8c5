-- How local counters come into step, by computing: on the built-in plan of eight phases, with a cycle of 800 ticks. The
-- counter of pattern 1 is the tick number, within 800. Pattern 2 has an offset of 600 here, so that its counter is 200
-- later. Both have instants of 510, 760, 110 and 360 in each ring; phases 2 and 6 are coordinated, with 760.
--
-- Pattern 1 is selected at tick 1000: where pattern 2 runs, its counter is at 400 there, and that of pattern 1 in step
-- would be at 200. So it goes on 200 ticks ahead. Pattern 2 is selected at tick 1001: the counter of pattern 1 is at
-- 201 there, and that of pattern 2 in step would be at 401. So it goes on 600 ticks ahead, which is 200 ticks short of
-- a whole cycle.
use Rattle.std.specs.Prelude.{◌≡◌, ℕ, true, false, List, [], ◌∷◌, Option, Some, None, filter, map, refl}
use Rattle.std.proofs.Common.{arith}
use Rattle.tsb_objects.specs.tsb_types.Lists.{run_from}
use Rattle.tsb_objects.specs.tsb_plan.declared.object.Object.TheVariants.{CoordCorrectionMode, CoordCorrectionLimit, PatternOffsetTime, PhasePedestrianRecycle}
use Rattle.tsb_objects.specs.tsb_plan.declared.plan.patterns.CorrectionMode.TheVariants.{AtOnce, Dwell, ShortWay, AddOnly}
use Rattle.tsb_objects.specs.tsb_plan.Parts.{correction_mode}
use Rattle.tsb_objects.specs.tsb_plan.Plan.{Plan, with_values}
use Rattle.tsb_objects.specs.tsb_plan.Quad.{quad}
use Rattle.tsb_objects.specs.tsb_rules.PatternRules.{split_sum, side_sum, split_end, coordinated_count}
use Rattle.tsb_objects.specs.tsb_rules.Rules.{first_broken, broken_by_rings, broken_by_phases, broken_by_parts, broken_by_extensions, broken_by_schedule, broken_by_overlaps}
use Rattle.tsb_objects.specs.Instants.{waiting_point}
use Rattle.tsb_coord.specs.Coordinated.{local, force_off}
use Rattle.tsb_coord.specs.Correction.{Correction, in_step, lost, gained, longest_wait, waited, way, is_slower_way, ahead_in, local_now, steps_twice, forces, comes_to_force_off, is_in_step, lets_walk_again, ahead_from, selected_correction}
use Rattle.tsb_coord.specs.Cycle.{comes_to_zero, yields}
use Rattle.tsb_coord.specs.Laws.{waits, IsLongEnough}

-- this mode and this limit
abbrev pub with_mode : ℕ → ℕ → Plan
with_mode mode limit =
    with_values quad ((CoordCorrectionMode, 1, mode) ∷ (CoordCorrectionLimit, 1, limit) ∷ (PatternOffsetTime, 2, 60) ∷ [])

-- with 20 percent
unfoldable pub at_once : Plan
at_once = with_mode 0 20

unfoldable pub dwelling : Plan
dwelling = with_mode 1 20

unfoldable pub by_short_way : Plan
by_short_way = with_mode 2 20

unfoldable pub adding : Plan
adding = with_mode 3 20

-- and with none
unfoldable pub dwelling_on : Plan
dwelling_on = with_mode 1 0

they_are_consistent : map first_broken (dwelling ∷ by_short_way ∷ adding ∷ dwelling_on ∷ []) ≡ None ∷ None ∷ None ∷ None ∷ []
unfolding dwelling by_short_way adding dwelling_on quad run_from split_sum side_sum split_end coordinated_count first_broken broken_by_rings broken_by_phases broken_by_parts broken_by_extensions broken_by_schedule broken_by_overlaps
they_are_consistent = refl

-- without a limit the short way and add only are at once
their_modes : map correction_mode (at_once ∷ dwelling ∷ by_short_way ∷ adding ∷ dwelling_on ∷ with_mode 2 0 ∷ with_mode 3 0 ∷ [])
    ≡ AtOnce ∷ Dwell ∷ ShortWay ∷ AddOnly ∷ Dwell ∷ AtOnce ∷ AtOnce ∷ []
unfolding at_once dwelling by_short_way adding dwelling_on quad
their_modes = refl

-- ## What is lost, gained and waited

-- with 20 percent a tick of 6 is lost, and one of 4 gained
one_in_six : map (lost 20) (0 ∷ 5 ∷ 6 ∷ 11 ∷ 12 ∷ 1199 ∷ 1200 ∷ []) ≡ 0 ∷ 0 ∷ 1 ∷ 1 ∷ 2 ∷ 199 ∷ 200 ∷ []
one_in_six = refl

one_in_four : map (gained 20) (0 ∷ 3 ∷ 4 ∷ 7 ∷ 8 ∷ 799 ∷ 800 ∷ []) ≡ 0 ∷ 0 ∷ 1 ∷ 1 ∷ 2 ∷ 199 ∷ 200 ∷ []
one_in_four = refl

-- with 50 percent it is one of 3, and each
at_most : lost 50 3 ∷ gained 50 3 ∷ [] ≡ 1 ∷ 3 ∷ []
at_most = refl

-- a wait lasts for 160 ticks of a cycle of 800, for one tick at least, and without a limit for as long as it takes
how_long : map (λ limit. longest_wait limit 800) (20 ∷ 1 ∷ 0 ∷ []) ≡ 160 ∷ 8 ∷ 800 ∷ []
how_long = refl

a_tick_at_least : longest_wait 1 50 ≡ 1
a_tick_at_least = refl

-- and again a cycle of 800 behind its end
again : map (waited 800 160) (0 ∷ 1 ∷ 160 ∷ 161 ∷ 959 ∷ 960 ∷ 961 ∷ 1000 ∷ []) ≡ 0 ∷ 1 ∷ 160 ∷ 160 ∷ 160 ∷ 160 ∷ 161 ∷ 200 ∷ []
again = refl

-- so 200 ticks are waited in 1000, and 160 in 160
in_two_waits : map (waits 800 160) (200 ∷ 161 ∷ 160 ∷ 1 ∷ []) ≡ 1000 ∷ 961 ∷ 160 ∷ 1 ∷ []
in_two_waits = refl

-- ## A selection goes on from where the old counter is

abbrev pub ahead_200 : Correction
ahead_200 = record { since = 1000; ahead = 200; midnight = 0 }

abbrev pub ahead_600 : Correction
ahead_600 = record { since = 1001; ahead = 600; midnight = 0 }

where_they_stand : local dwelling 1000 (Some 1) ∷ local dwelling 1000 (Some 2) ∷ local dwelling 1001 (Some 1) ∷ local dwelling 1001 (Some 2) ∷ []
    ≡ Some 200 ∷ Some 400 ∷ Some 201 ∷ Some 401 ∷ []
unfolding dwelling quad
where_they_stand = refl

to_pattern_1 : map (λ plan. selected_correction plan (Some 1) 1000 0 (Some 400)) (dwelling ∷ by_short_way ∷ adding ∷ at_once ∷ [])
    ≡ ahead_200 ∷ ahead_200 ∷ ahead_200 ∷ in_step ∷ []
unfolding dwelling by_short_way adding at_once quad
to_pattern_1 = refl

to_pattern_2 : selected_correction by_short_way (Some 2) 1001 0 (Some 201) ≡ ahead_600
unfolding by_short_way quad
to_pattern_2 = refl

-- from free operation it is in step at once; one that is already at its place in step is too, and free operation
else_in_step : selected_correction dwelling (Some 1) 1000 0 None ∷ selected_correction dwelling (Some 1) 1000 0 (Some 200)
    ∷ selected_correction dwelling None 1000 0 (Some 400) ∷ [] ≡ in_step ∷ in_step ∷ in_step ∷ []
unfolding dwelling quad
else_in_step = refl

-- a counter of a longer cycle goes on within that of the new pattern
from_a_longer_cycle : ahead_from dwelling 1 1000 (Some 1200) ∷ ahead_from dwelling 1 1000 (Some 900) ∷ [] ≡ 200 ∷ 700 ∷ []
unfolding dwelling quad
from_a_longer_cycle = refl

goes_on : map (λ plan. local_now plan (Some 1) ahead_200 1000) (dwelling ∷ by_short_way ∷ adding ∷ []) ≡ Some 400 ∷ Some 400 ∷ Some 400 ∷ []
unfolding dwelling by_short_way adding quad run_from split_sum side_sum split_end force_off
goes_on = refl

-- the selection of the pattern that runs goes on as well: at 1600, 100 ticks are lost
again_selected : local_now adding (Some 1) ahead_200 1600 ≡ Some 100
unfolding adding quad
again_selected = refl

anew : selected_correction adding (Some 1) 1600 0 (Some 100) ≡ record { since = 1600; ahead = 100; midnight = 0 }
unfolding adding quad
anew = refl

-- in a cycle that a commit has made shorter it is ahead within that
in_a_shorter_cycle : ahead_in adding (Some 1) (record { since = 1000; ahead = 900; midnight = 0 }) 1000 ≡ 100
unfolding adding quad
in_a_shorter_cycle = refl

-- ## Add only: it waits in each sixth tick, and is in step 1200 ticks later

abbrev pub locals : Plan → Option ℕ → Correction → List ℕ → List (Option ℕ)
locals plan selected c ticks = map (local_now plan selected c) ticks

stands_still : locals adding (Some 1) ahead_200 (1004 ∷ 1005 ∷ 1006 ∷ 1007 ∷ []) ≡ Some 404 ∷ Some 405 ∷ Some 405 ∷ Some 406 ∷ []
unfolding adding quad
stands_still = refl

comes_slowly : locals adding (Some 1) ahead_200 (2199 ∷ 2200 ∷ 2201 ∷ []) ∷ locals adding (Some 1) in_step (2199 ∷ 2200 ∷ 2201 ∷ []) ∷ []
    ≡ (Some 600 ∷ Some 600 ∷ Some 601 ∷ []) ∷ (Some 599 ∷ Some 600 ∷ Some 601 ∷ []) ∷ []
unfolding adding quad
comes_slowly = refl

is_slower_in_step : map (is_in_step adding (Some 1) ahead_200) (999 ∷ 1000 ∷ 2199 ∷ 2200 ∷ 6000000 ∷ []) ≡ false ∷ false ∷ false ∷ true ∷ true ∷ []
unfolding adding quad
is_slower_in_step = refl

slower_for_long_enough : IsLongEnough (correction_mode adding) adding 1 ahead_200 1200
unfolding adding quad
slower_for_long_enough = omega arith

-- ## The short way: slower as well for 200 ticks, and faster for 600, which are 200 to a whole cycle

ways : map (is_slower_way 800) (1 ∷ 200 ∷ 400 ∷ 401 ∷ 600 ∷ []) ≡ true ∷ true ∷ true ∷ false ∷ false ∷ []
ways = refl

slower_way : locals by_short_way (Some 1) ahead_200 (1005 ∷ 1006 ∷ 2199 ∷ 2200 ∷ []) ≡ Some 405 ∷ Some 405 ∷ Some 600 ∷ Some 600 ∷ []
unfolding by_short_way quad
slower_way = refl

-- it takes two steps in each fourth tick
takes_two_steps : locals by_short_way (Some 2) ahead_600 (1003 ∷ 1004 ∷ 1005 ∷ 1006 ∷ []) ≡ Some 203 ∷ Some 204 ∷ Some 206 ∷ Some 207 ∷ []
unfolding by_short_way quad
takes_two_steps = refl

both_in_one_tick : map (steps_twice by_short_way (Some 2) ahead_600) (1004 ∷ 1005 ∷ 1006 ∷ []) ≡ false ∷ true ∷ false ∷ []
unfolding by_short_way quad
both_in_one_tick = refl

-- and is in step 800 ticks later, in which it has taken 1000
is_faster_in_step : map (is_in_step by_short_way (Some 2) ahead_600) (1001 ∷ 1800 ∷ 1801 ∷ 6000000 ∷ []) ≡ false ∷ false ∷ true ∷ true ∷ []
unfolding by_short_way quad
is_faster_in_step = refl

comes_fast : locals by_short_way (Some 2) ahead_600 (1800 ∷ 1801 ∷ 1802 ∷ 1805 ∷ []) ≡ Some 399 ∷ Some 401 ∷ Some 402 ∷ Some 405 ∷ []
unfolding by_short_way quad
comes_fast = refl

faster_for_long_enough : IsLongEnough (correction_mode by_short_way) by_short_way 2 ahead_600 800
unfolding by_short_way quad
faster_for_long_enough = (λ is. absurd (apart is), λ is. omega arith)
  where
    apart : false ≡ true → ⊥
    apart e = cc

-- ## Dwell: it waits at 759, a tick before the instant of phases 2 and 6

it_waits_there : map (waiting_point dwelling) (1 ∷ 2 ∷ []) ≡ 759 ∷ 759 ∷ []
unfolding dwelling quad run_from split_sum side_sum split_end force_off
it_waits_there = refl

the_way : way dwelling 1 ahead_200 ≡ 359
unfolding dwelling quad run_from split_sum side_sum split_end force_off
the_way = refl

-- from 1359 on, for 160 ticks; and from 2319 on for the 40 that are left
waits_twice : locals dwelling (Some 1) ahead_200 (1358 ∷ 1359 ∷ 1360 ∷ 1519 ∷ 1520 ∷ 2318 ∷ 2319 ∷ 2359 ∷ 2360 ∷ [])
    ≡ Some 758 ∷ Some 759 ∷ Some 759 ∷ Some 759 ∷ Some 760 ∷ Some 758 ∷ Some 759 ∷ Some 759 ∷ Some 760 ∷ []
unfolding dwelling quad run_from split_sum side_sum split_end force_off
waits_twice = refl

in_step_behind_both : map (is_in_step dwelling (Some 1) ahead_200) (1520 ∷ 2358 ∷ 2359 ∷ []) ≡ false ∷ false ∷ true ∷ []
unfolding dwelling quad run_from split_sum side_sum split_end force_off
in_step_behind_both = refl

-- without a limit once, for 200 ticks
waits_once : locals dwelling_on (Some 1) ahead_200 (1358 ∷ 1359 ∷ 1360 ∷ 1559 ∷ 1560 ∷ 2360 ∷ [])
    ≡ Some 758 ∷ Some 759 ∷ Some 759 ∷ Some 759 ∷ Some 760 ∷ Some 760 ∷ []
unfolding dwelling_on quad run_from split_sum side_sum split_end force_off
waits_once = refl

in_step_behind_it : map (is_in_step dwelling_on (Some 1) ahead_200) (1558 ∷ 1559 ∷ []) ≡ false ∷ true ∷ []
unfolding dwelling_on quad run_from split_sum side_sum split_end force_off
in_step_behind_it = refl

waits_for_long_enough : IsLongEnough (correction_mode dwelling_on) dwelling_on 1 ahead_200 559
unfolding dwelling_on quad run_from split_sum side_sum split_end force_off
waits_for_long_enough = omega arith

-- ## What is asked meanwhile

abbrev pub forced : Plan → Option ℕ → Correction → ℕ → List ℕ
forced plan selected c t = filter (forces plan selected c t) (run_from 1 8)

-- while it waits no phase is forced off, so that phases 2 and 6 stay green; they are in the tick after the wait
behind_the_wait : map (forced dwelling_on (Some 1) ahead_200) (1359 ∷ 1500 ∷ 1559 ∷ 1560 ∷ 1561 ∷ []) ≡ [] ∷ [] ∷ [] ∷ (2 ∷ 6 ∷ []) ∷ [] ∷ []
unfolding dwelling_on quad run_from split_sum side_sum split_end force_off
behind_the_wait = refl

-- of two steps, from 759 to 761, the first forces phases 2 and 6 off
passes_760 : locals by_short_way (Some 2) ahead_600 (1448 ∷ 1449 ∷ 1450 ∷ []) ≡ Some 759 ∷ Some 761 ∷ Some 762 ∷ []
unfolding by_short_way quad
passes_760 = refl

at_the_first : map (forced by_short_way (Some 2) ahead_600) (1448 ∷ 1449 ∷ 1450 ∷ []) ≡ [] ∷ (2 ∷ 6 ∷ []) ∷ [] ∷ []
unfolding by_short_way quad run_from split_sum side_sum split_end force_off
at_the_first = refl

comes_to_both : filter (comes_to_force_off by_short_way (Some 2) ahead_600 1449) (run_from 1 8) ≡ 2 ∷ 6 ∷ []
unfolding by_short_way quad run_from split_sum side_sum split_end force_off
comes_to_both = refl

-- ## Places that have an event

-- of two steps the first comes to 760, and phases 2 and 6 have their yield point
yield_at_the_first : filter (yields by_short_way (Some 2) ahead_600 1449) (run_from 1 8) ≡ 2 ∷ 6 ∷ []
unfolding by_short_way quad run_from split_sum side_sum split_end force_off
yield_at_the_first = refl

-- by longer cycles the counter is at 760 in two ticks, and at 0 in two: it comes there in the first
stays_there : locals adding (Some 1) ahead_200 (1430 ∷ 1431 ∷ 1432 ∷ []) ∷ locals adding (Some 1) ahead_200 (1478 ∷ 1479 ∷ 1480 ∷ []) ∷ []
    ≡ (Some 759 ∷ Some 760 ∷ Some 760 ∷ []) ∷ (Some 799 ∷ Some 0 ∷ Some 0 ∷ []) ∷ []
unfolding adding quad
stays_there = refl

yield_once : map (λ t. yields adding (Some 1) ahead_200 t 2) (1430 ∷ 1431 ∷ 1432 ∷ []) ≡ false ∷ true ∷ false ∷ []
unfolding adding quad run_from split_sum side_sum split_end force_off
yield_once = refl

zero_once : map (comes_to_zero adding (Some 1) ahead_200) (1478 ∷ 1479 ∷ 1480 ∷ []) ≡ false ∷ true ∷ false ∷ []
unfolding adding quad
zero_once = refl

-- phase 2 walks again from the tick after the first in which the counter is in step: at 1802, where that is at 402
unfoldable pub walking : Plan
walking = with_values by_short_way ((PhasePedestrianRecycle, 2, 1) ∷ [])

once_in_step : map (λ t. lets_walk_again walking (Some 2) ahead_600 t 2) (1368 ∷ 1801 ∷ 1802 ∷ []) ≡ false ∷ false ∷ true ∷ []
unfolding walking by_short_way quad run_from split_sum side_sum split_end force_off
once_in_step = refl

-- ## One in step from the start: all is as by the counter in step

as_in_step : locals by_short_way (Some 2) in_step (0 ∷ 1449 ∷ 6000000 ∷ []) ≡ Some 200 ∷ Some 49 ∷ Some 200 ∷ []
unfolding by_short_way quad
as_in_step = refl

none_in_free : locals by_short_way None ahead_600 (1449 ∷ []) ∷ locals by_short_way (Some 3) ahead_600 (1449 ∷ []) ∷ []
    ≡ (None ∷ []) ∷ (None ∷ []) ∷ []
unfolding by_short_way quad
none_in_free = refl
