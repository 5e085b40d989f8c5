-- One-line mistakes in pedestrian recycle, each with an example that tells it from the definition.
use Rattle.std.specs.Prelude.{◌≡◌, ℕ, nat_le, nat_lt, Bool, true, false, ◌&&◌, Option, Some, refl}
use Rattle.tsb_objects.specs.tsb_types.Lists.{run_from}
use Rattle.tsb_objects.specs.tsb_plan.Parts.{cycle}
use Rattle.tsb_objects.specs.tsb_plan.Plan.{Plan, walk, recycles_walk}
use Rattle.tsb_objects.specs.tsb_plan.Quad.{quad}
use Rattle.tsb_objects.specs.tsb_rules.PatternRules.{split_sum, side_sum, split_end}
use Rattle.tsb_coord.specs.Coordinated.{residue_of_difference, force_off, walk_and_clearance, may_recycle, is_left, recycle_end_from, asks_recycle}
use Rattle.tsb_coord.proofs.Examples.RecycleExamples.{recycling, permitted_too}

-- at local counter l of pattern 1 that time is left to the instant of p
abbrev pub fits : Plan → ℕ → ℕ → ℕ → Bool
fits plan time l p = is_left (cycle plan 1) time (Some l) (force_off plan (Some 1) p)

-- ## What is left is counted from the instant, and not to it: at 700 it is 60 ticks, and not 740

abbrev pub left_from : ℕ → ℕ → ℕ → ℕ → Bool
left_from m time l i = nat_le time (residue_of_difference m l i)

fits_no_more : asks_recycle recycling 700 (Some 1) 2 ≡ false
unfolding recycling quad run_from split_sum side_sum split_end force_off
fits_no_more = refl

would_walk_late : left_from 800 100 700 760 ≡ true
would_walk_late = refl

-- ## The clearance is left out: at 700 the walk itself ends at 740, but its clearance at 800

would_clear_late : fits recycling (walk recycling 2) 700 2 ≡ true
unfolding recycling quad run_from split_sum side_sum split_end force_off
would_clear_late = refl

-- ## It has to end before the instant: at 660 its clearance ends at 760, where the green may end

abbrev pub left_before : ℕ → ℕ → ℕ → ℕ → Bool
left_before m time l i = nat_lt time (residue_of_difference m i l)

fits_still : asks_recycle recycling 660 (Some 1) 2 ≡ true
unfolding recycling quad run_from split_sum side_sum split_end force_off
fits_still = refl

would_not_walk : left_before 800 100 660 760 ≡ false
would_not_walk = refl

-- ## A walk in the permissive time: at 810 the next instant is far, but phase 2 yields

abbrev pub walks_in_it : Plan → ℕ → ℕ → Bool
walks_in_it plan l p = may_recycle plan (Some 1) p && fits plan (walk_and_clearance plan p) l p

yields : asks_recycle permitted_too 810 (Some 1) 2 ≡ false
unfolding permitted_too recycling quad run_from split_sum side_sum split_end force_off
yields = refl

would_not_yield : walks_in_it permitted_too 10 2 ≡ true
unfolding permitted_too recycling quad run_from split_sum side_sum split_end force_off
would_not_yield = refl

-- ## A phase that is not coordinated has it as well: phase 4 at 10

abbrev pub walks_of_all : Plan → ℕ → ℕ → Bool
walks_of_all plan l p = recycles_walk plan p && fits plan (walk_and_clearance plan p) l p

not_coordinated : asks_recycle recycling 10 (Some 1) 4 ≡ false
unfolding recycling quad run_from split_sum side_sum split_end force_off
not_coordinated = refl

would_walk : walks_of_all recycling 10 4 ≡ true
unfolding recycling quad run_from split_sum side_sum split_end force_off
would_walk = refl

-- ## The end is the last tick in which it fits, and not the first in which it does not: nothing changes at 660

abbrev pub last_fit : ℕ → ℕ → ℕ → Option ℕ
last_fit m time i = Some (residue_of_difference m i time)

first_without : recycle_end_from 800 100 (Some 760) ≡ Some 661
first_without = refl

would_end_early : last_fit 800 100 760 ≡ Some 660
would_end_early = refl
