-- The built-in plans have no options, and mistakes that the law of options refuses.
use Rattle.std.proofs.Common.{◌≡◌, ℕ, ◌+◌, ◌-◌, ◌%◌, nat_lt, Bool, true, false, not, ◌&&◌, ◌||◌, Option, Some, None, is_some, is_none, refl}
use Rattle.tsb_step.specs.tsb_cells.declared.timer.Timer.TheVariants.{Off, On}
use Rattle.tsb_step.specs.tsb_cells.Timer.{has_reached}
use Rattle.tsb_step.specs.tsb_plan.declared.plan.patterns.OffsetReference.TheVariants.{FirstGreen}
use Rattle.tsb_step.specs.tsb_plan.Parts.{cycle, permissive_time, is_anew}
use Rattle.tsb_step.specs.tsb_plan.Plan.{Plan, maximum, yellow_change, red_clear}
use Rattle.tsb_step.specs.tsb_plan.Quad.{quad}
use Rattle.tsb_step.specs.tsb_plan.Running.{running, is_coordinated_now, split_green}
use Rattle.tsb_step.specs.tsb_plan.Two.{two}
use Rattle.tsb_step.specs.tsb_rules.PatternRules.{each_pattern, ends_with, permissive_times_end}
use Rattle.tsb_step.specs.tsb_objects.Instants.{is_behind, walk_and_clearance, is_left, end_within, counted_to, offset_from}
use Rattle.tsb_step.specs.tsb_heads.Heads.{Shown}
use Rattle.tsb_step.specs.tsb_heads.Overlaps.{is_followed_in_ring, is_followed_across, is_followed}
use Rattle.tsb_step.specs.Signs.{shown}
use Rattle.tsb_step.specs.tsb_coord.declared.correction.Correction.{Correction}
use Rattle.tsb_step.specs.tsb_coord.Coordinated.{counter, reference, local, residue_of_difference, end_of, force_off, agree, yields_to, instant_of, is_late, asks_force_off, asks_recycle}
use Rattle.tsb_step.specs.tsb_coord.Correction.{in_step, by_short_way, is_in_step, begun, selected_correction}
use Rattle.tsb_step.specs.tsb_phase.Phase.{Given, GreenHeld}
use Rattle.tsb_step.specs.tsb_phase.Green.{conflict_timer, has_maxed_out, forced_latch}
use Rattle.tsb_step.proofs.Examples.Scenes.{opened}
use Rattle.tsb_laws.specs.Options.{HasNoOptions}
use Rattle.tsb_laws.proofs.operation.Examples.OverlapRuns.{over}

two_has_none : HasNoOptions two
unfolding two
two_has_none = record {
  coord_force_mode = refl;
  coord_maximum_mode = refl;
  pattern_permissive_time = λ n. refl;
  pattern_lead_lag = λ n. refl;
  phase_pedestrian_recycle = λ p. refl;
  coord_correction_mode = refl;
  overlap_across_rings = λ o. refl;
  preempt_chooses_anew = λ n. refl;
  coord_reference = refl;
}

pub quad_has_none : HasNoOptions quad
unfolding quad
quad_has_none = record {
  coord_force_mode = refl;
  coord_maximum_mode = refl;
  pattern_permissive_time = λ n. refl;
  pattern_lead_lag = λ n. refl;
  phase_pedestrian_recycle = λ p. refl;
  coord_correction_mode = refl;
  overlap_across_rings = λ o. refl;
  preempt_chooses_anew = λ n. refl;
  coord_reference = refl;
}

-- ## Force-off that is late whatever the mode is

-- the instant of the coordinated phase that p yields to
abbrev up_to : Plan → Option ℕ → ℕ → Option ℕ
up_to plan None p = None
up_to plan (Some n) p = instant_of plan n (yields_to plan n p)

-- with a cycle of 800 ticks
abbrev late_always : Plan → ℕ → Option ℕ → ℕ → Bool
late_always plan t selected p =
    agree (local plan t selected) (force_off plan (running plan selected) p)
    || is_late 800 (local plan t selected) (force_off plan (running plan selected) p) (up_to plan (running plan selected) p)

-- the instant of 4 is 360, and that of 2, which is coordinated, 760
is_not_asked : asks_force_off quad 361 (Some 1) 4 ≡ false
unfolding opened
is_not_asked = refl

would_ask : late_always quad 361 (Some 1) 4 ≡ true
unfolding opened
would_ask = refl

-- ## A permissive time of 10 s where the plan gives none

-- with a cycle of 800 ticks
abbrev permits_always : Plan → ℕ → Option ℕ → ℕ → Bool
permits_always plan t selected p =
    asks_force_off plan t selected p || is_behind 800 100 (local plan t selected) (force_off plan (running plan selected) p)

-- the instant of 2 is 760
is_not_permitted : asks_force_off quad 770 (Some 1) 2 ≡ false
unfolding opened
is_not_permitted = refl

would_permit : permits_always quad 770 (Some 1) 2 ≡ true
unfolding opened
would_permit = refl

-- ## A second walk in each coordinated green

-- with a cycle of 800 ticks
abbrev recycles_always : Plan → ℕ → Option ℕ → ℕ → Bool
recycles_always plan t selected p =
    is_coordinated_now plan (running plan selected) p
    && (not (asks_force_off plan t selected p)
    && is_left 800 (walk_and_clearance plan p) (local plan t selected) (force_off plan (running plan selected) p))

-- the instant of 2 is 760, and a walk from 660 and its pedestrian clearance, 100 ticks in all, would end just by it
is_not_recycled : asks_recycle quad 660 (Some 1) 2 ≡ false
unfolding opened
is_not_recycled = refl

would_walk_again : recycles_always quad 660 (Some 1) 2 ≡ true
unfolding opened
would_walk_again = refl

-- ## A local counter that takes the short way whatever the mode is

-- 100 ticks ahead in tick 0
abbrev far : Correction
far = record { since = 0; ahead = 100; midnight = 0 }

-- with a limit of 20 percent
abbrev steps_always : Plan → ℕ → Correction → ℕ → ℕ
steps_always plan n c t = by_short_way (cycle plan n) 20 c.ahead (t - c.since)

is_in_step_at_once : is_in_step quad (Some 1) far 12 ≡ true
unfolding opened
is_in_step_at_once = refl

-- it stands still in 2 of 12 ticks
would_lag : steps_always quad 1 far 12 ≡ 98
unfolding opened
would_lag = refl

-- ## A selection that goes on from the old local counter whatever the mode is

abbrev goes_on_always : Plan → ℕ → ℕ → ℕ → Correction
goes_on_always plan n now l = begun now 0 (residue_of_difference (cycle plan n) (l % cycle plan n) (counter plan n now))

-- pattern 1 is selected in tick 12, in which that of the old pattern is 112
begins_in_step : selected_correction quad (Some 1) 12 0 (Some 112) ≡ in_step
unfolding opened
begins_in_step = refl

would_begin_ahead : goes_on_always quad 1 12 112 ≡ record { since = 12; ahead = 100; midnight = 0 }
unfolding opened
would_begin_ahead = refl

-- ## Offsets that are counted to the first green whatever the number is

abbrev to_green_always : Plan → ℕ → ℕ → ℕ
to_green_always plan n t =
    (t + cycle plan n - offset_from plan n (counted_to FirstGreen plan n) (end_within plan n (reference plan n))) % cycle plan n

is_at_100 : counter quad 1 100 ≡ 100
unfolding opened
is_at_100 = refl

-- the split of 2 begins 250 ticks before local 0
would_be_at_650 : to_green_always quad 1 100 ≡ 650
unfolding opened
would_be_at_650 = refl

-- ## Instants that are counted from the begin of the cycle

abbrev from_the_begin : Plan → ℕ → ℕ → ℕ
from_the_begin plan n p = end_of plan n p - yellow_change plan p - red_clear plan p

is_counted : force_off quad (Some 1) 4 ≡ Some 360
unfolding opened
is_counted = refl

would_be_later : from_the_begin quad 1 4 ≡ 760
unfolding opened
would_be_later = refl

-- ## Greens of 4 in pattern 1, for which another phase waits, and which nothing forces off in the tick

abbrev waited_for : Given
waited_for = record {
  output = λ p. false;
  conflict = λ p. true;
  callable = λ p. false;
  pedestrian_call = λ p. false;
  count = λ p. 0;
  runs = Some 1;
  service = None;
  hold = λ p. false;
  must_end = λ p. false;
  forced = λ p. false;
  recycle = λ p. false;
}

-- for 600 ticks, in which there was a conflict
abbrev long : GreenHeld
long = record { green = On 600; passage = Off; conflict = On 599; reduction = Off; gapped = false; forced = false }

-- force-off that floats whatever the mode is
abbrev floating_always : Plan → Given → ℕ → GreenHeld → Bool
floating_always plan given p held =
    is_some given.runs && (is_none given.service && (given.conflict p && (given.forced p || (has_reached held.green (split_green plan 1 p) || held.forced))))

is_not_forced : forced_latch quad waited_for 4 long ≡ false
unfolding opened
is_not_forced = refl

would_be_forced : floating_always quad waited_for 4 long ≡ true
unfolding opened
would_be_forced = refl

-- a maximum that acts in patterns whatever the mode is
abbrev maximum_always : Plan → Given → ℕ → GreenHeld → Bool
maximum_always plan given p held = has_reached (conflict_timer given p held) (maximum plan p)

is_not_out : has_maxed_out quad waited_for 4 long None ≡ false
unfolding opened
is_not_out = refl

would_be_out : maximum_always quad waited_for 4 long ≡ true
unfolding opened
would_be_out = refl

-- ## Rules that read an option as if it were on

-- K20 that lets coordinated splits end apart: that of 5 ends at 150, and that of 2 at 400
ends_at_another_time : ends_with quad false 1 1 2 5 ≡ false
unfolding opened
ends_at_another_time = refl

would_agree : ends_with quad true 1 1 2 5 ≡ true
unfolding opened
would_agree = refl

-- K23 that asks for a permissive time
abbrev asks_for_time : Plan → Bool
asks_for_time plan = each_pattern plan (λ n. nat_lt 0 (permissive_time plan n) && nat_lt (permissive_time plan n) (cycle plan n))

ends_in_time : permissive_times_end quad ≡ true
unfolding opened
ends_in_time = refl

would_refuse : asks_for_time quad ≡ false
unfolding opened
would_refuse = refl

-- ## An overlap that goes on across rings whatever the option is

abbrev across_always : Plan → Shown → ℕ → ℕ → Bool
across_always plan s o p = is_followed_in_ring plan s o p || is_followed_across plan s o p

-- 1 clears, and the rings are committed to 4 and 8
is_not_followed : is_followed (over 0).plan (shown (over 0)) 1 1 ≡ false
unfolding opened
is_not_followed = refl

would_follow : across_always (over 0).plan (shown (over 0)) 1 1 ≡ true
unfolding opened
would_follow = refl

-- ## Preempts that choose anew whatever the option is

abbrev anew_always : Option ℕ → Bool
anew_always service = is_some service

is_not_anew : is_anew quad (Some 1) ≡ false
unfolding opened
is_not_anew = refl

would_choose_anew : anew_always (Some 1) ≡ true
would_choose_anew = refl
