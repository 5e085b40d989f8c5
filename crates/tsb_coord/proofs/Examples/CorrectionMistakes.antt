-- One-line mistakes in how a local counter comes into step, each with an example that tells it from the definition. The
-- plans and the selections are those of CorrectionExamples: a cycle of 800 ticks, and 20 percent.
use Rattle.std.specs.Prelude.{◌≡◌, ℕ, ◌+◌, ◌*◌, ◌/◌, ◌%◌, ◌==◌, nat_le, min, Bool, true, false, if◌then◌else◌, [], ◌∷◌, Option, Some, None, map, refl}
use Rattle.tsb_objects.specs.tsb_types.Lists.{run_from}
use Rattle.tsb_objects.specs.tsb_plan.declared.plan.patterns.CorrectionMode.{CorrectionMode}
use Rattle.tsb_objects.specs.tsb_plan.declared.plan.patterns.CorrectionMode.TheVariants.{AddOnly}
use Rattle.tsb_objects.specs.tsb_plan.Parts.{cycle}
use Rattle.tsb_objects.specs.tsb_plan.Plan.{Plan}
use Rattle.tsb_objects.specs.tsb_plan.Quad.{quad}
use Rattle.tsb_objects.specs.tsb_rules.PatternRules.{split_sum, side_sum, split_end}
use Rattle.tsb_coord.specs.Coordinated.{counter, residue_of_difference, force_off, asks_force_off, asks_recycle}
use Rattle.tsb_coord.specs.Correction.{Correction, lost, gained, longest_wait, waited, slower, faster, ahead_with, counted_tick, local_now, forces, lets_walk_again}
use Rattle.tsb_coord.proofs.Examples.CorrectionExamples.{adding, by_short_way, dwelling, dwelling_on, walking, ahead_200, ahead_600}

-- ## It is in step at once in each mode: at the selection it is at 200, where that of the old pattern is at 400

abbrev pub at_once : CorrectionMode → ℕ → ℕ
at_once mode ahead = 0

stays_there : local_now adding (Some 1) (record { since = 1000; ahead = ahead_with AddOnly 200; midnight = 0 }) 1000 ≡ Some 400
unfolding adding quad
stays_there = refl

would_jump : local_now adding (Some 1) (record { since = 1000; ahead = at_once AddOnly 200; midnight = 0 }) 1000 ≡ Some 200
unfolding adding quad
would_jump = refl

-- ## It gains without end: 800 ticks later it is in step, and 804 ticks later a tick ahead again

abbrev pub gains_on : ℕ → ℕ → ℕ → ℕ
gains_on m ahead ticks = (ahead + ticks) % m

ends_there : map (λ t. faster 800 600 (gained 20 t)) (796 ∷ 800 ∷ 804 ∷ []) ≡ 799 ∷ 0 ∷ 0 ∷ []
ends_there = refl

would_leave_step : map (λ t. gains_on 800 600 (gained 20 t)) (796 ∷ 800 ∷ 804 ∷ []) ≡ 799 ∷ 0 ∷ 1 ∷ []
would_leave_step = refl

-- ## It loses in each tick the limit of one tick, without a rest: that is none, and it never is in step

abbrev pub lost_in_each : ℕ → ℕ → ℕ
lost_in_each limit ticks = ticks * (limit / (100 + limit))

arrives : map (λ t. slower 200 (lost 20 t)) (1199 ∷ 1200 ∷ 6000000 ∷ []) ≡ 1 ∷ 0 ∷ 0 ∷ []
arrives = refl

would_never_arrive : map (λ t. slower 200 (lost_in_each 20 t)) (1199 ∷ 1200 ∷ 6000000 ∷ []) ≡ 200 ∷ 200 ∷ 200 ∷ []
would_never_arrive = refl

-- ## It loses limit percent of the ticks, and not of the cycle: a cycle then lasts 1000 ticks, and not 960

abbrev pub lost_of_ticks : ℕ → ℕ → ℕ
lost_of_ticks limit ticks = ticks * limit / 100

in_a_cycle : lost 20 960 ≡ 160
in_a_cycle = refl

would_lose_more : lost_of_ticks 20 960 ≡ 192
would_lose_more = refl

-- ## The limit is a number of ticks: it waits for 20 ticks in a cycle of 800

abbrev pub wait_in_ticks : ℕ → ℕ → ℕ
wait_in_ticks limit m = if limit == 0 then m else limit

in_percent : longest_wait 20 800 ≡ 160
in_percent = refl

would_wait_less : wait_in_ticks 20 800 ≡ 20
would_wait_less = refl

-- ## It waits for as long as it takes with each limit: for 200 ticks, where 160 are the most

abbrev pub waits_on : ℕ → ℕ → ℕ → ℕ
waits_on m most ticks = ticks

goes_on : slower 200 (waited 800 160 200) ≡ 40
goes_on = refl

would_wait_on : slower 200 (waits_on 800 160 200) ≡ 0
would_wait_on = refl

-- ## It waits once: what is left then stays so

abbrev pub waits_once : ℕ → ℕ → ℕ → ℕ
waits_once m most ticks = min most ticks

waits_again : slower 200 (waited 800 160 1000) ≡ 0
waits_again = refl

would_stay_ahead : slower 200 (waits_once 800 160 6000000) ≡ 40
would_stay_ahead = refl

-- ## It waits at the instant, and not a tick before: phases 2 and 6 are then forced off for as long as it waits

abbrev pub waits_at : Plan → ℕ → Option ℕ → ℕ
waits_at plan n None = 0
waits_at plan n (Some i) = i

none_forced : asks_force_off dwelling 759 (Some 1) 2 ≡ false
unfolding dwelling quad run_from split_sum side_sum split_end force_off
none_forced = refl

would_force_off : asks_force_off dwelling (waits_at dwelling 1 (force_off dwelling (Some 1) 2)) (Some 1) 2 ≡ true
unfolding dwelling quad run_from split_sum side_sum split_end force_off
would_force_off = refl

-- ## The short way is the other one: 200 ticks ahead, it would gain 600, which takes 2400 ticks, and not 1200

abbrev pub long_way : ℕ → ℕ → ℕ → ℕ → ℕ
long_way m limit ahead ticks = if nat_le m (2 * ahead) then slower ahead (lost limit ticks) else faster m ahead (gained limit ticks)

in_1200 : slower 200 (lost 20 1200) ≡ 0
in_1200 = refl

would_take_longer : map (long_way 800 20 200) (1200 ∷ 2399 ∷ 2400 ∷ []) ≡ 500 ∷ 799 ∷ 0 ∷ []
would_take_longer = refl

-- ## How far it is ahead is counted from the old counter: 600 in place of 200, so that it would jump to 0

abbrev pub ahead_of_old : Plan → ℕ → ℕ → ℕ → ℕ
ahead_of_old plan n now l = residue_of_difference (cycle plan n) (counter plan n now) l

would_be_600 : ahead_of_old adding 1 1000 400 ≡ 600
unfolding adding quad
would_be_600 = refl

would_jump_to_0 : local_now adding (Some 1) (record { since = 1000; ahead = 600; midnight = 0 }) 1000 ≡ Some 0
unfolding adding quad
would_jump_to_0 = refl

-- ## Of two steps the second alone acts: phases 2 and 6 are not forced off at all in that cycle

abbrev pub forces_at_second : Plan → Option ℕ → Correction → ℕ → ℕ → Bool
forces_at_second plan selected c t p = asks_force_off plan (counted_tick plan selected c t) selected p

at_both : map (λ t. forces by_short_way (Some 2) ahead_600 t 2) (1448 ∷ 1449 ∷ 1450 ∷ []) ≡ false ∷ true ∷ false ∷ []
unfolding by_short_way quad run_from split_sum side_sum split_end force_off
at_both = refl

would_pass_it : map (λ t. forces_at_second by_short_way (Some 2) ahead_600 t 2) (1448 ∷ 1449 ∷ 1450 ∷ []) ≡ false ∷ false ∷ false ∷ []
unfolding by_short_way quad run_from split_sum side_sum split_end force_off
would_pass_it = refl

-- ## A phase walks again while the counter is faster: at tick 1368 it is at 659, and walk and clearance last up to
-- 1468. The instant comes at 1449

abbrev pub walks_meanwhile : Plan → Option ℕ → Correction → ℕ → ℕ → Bool
walks_meanwhile plan selected c t p = asks_recycle plan (counted_tick plan selected c t) selected p

at_659 : local_now walking (Some 2) ahead_600 1368 ≡ Some 659
unfolding walking by_short_way quad
at_659 = refl

walks_not_yet : lets_walk_again walking (Some 2) ahead_600 1368 2 ≡ false
unfolding walking by_short_way quad run_from split_sum side_sum split_end force_off
walks_not_yet = refl

would_walk : walks_meanwhile walking (Some 2) ahead_600 1368 2 ≡ true
unfolding walking by_short_way quad run_from split_sum side_sum split_end force_off
would_walk = refl

would_be_forced_off : forces walking (Some 2) ahead_600 1449 2 ≡ true
unfolding walking by_short_way quad run_from split_sum side_sum split_end force_off
would_be_forced_off = refl

-- ## The way to where it waits is counted from the counter in step, at 200, and not from 400: it waits 200 ticks late

abbrev pub way_in_step : Plan → ℕ → Correction → ℕ → ℕ
way_in_step plan n c point = residue_of_difference (cycle plan n) point (counter plan n c.since)

is_there : local_now dwelling_on (Some 1) ahead_200 1359 ≡ Some 759
unfolding dwelling_on quad run_from split_sum side_sum split_end force_off
is_there = refl

would_be_late : way_in_step dwelling_on 1 ahead_200 759 ≡ 559
unfolding dwelling_on quad
would_be_late = refl
