-- Runs from power-up in which a pattern is selected while another one runs, computed: the local counter is in step at
-- once, or comes into step by the short way. The plan is that of one ring with phases 2 and 4 of TimeRuns, with a cycle
-- of 100 ticks. Pattern 2 has an offset of 70 ticks more than pattern 1. It is selected at tick 10, at which the local
-- counter of pattern 1 is 10, and that of pattern 2 in step 40.
use Rattle.std.proofs.Common.{◌≡◌, ℕ, true, false, List, [], ◌∷◌, map, Some, None, refl}
use Rattle.tsb_types.specs.declared.interval.Interval.TheVariants.{Green, Yellow}
use Rattle.tsb_objects.specs.tsb_plan.declared.object.Object.{Object}
use Rattle.tsb_objects.specs.tsb_plan.declared.object.Object.TheVariants.{CoordCorrectionMode, CoordCorrectionLimit, PatternCycleTime, PatternOffsetTime, PatternSplitNumber, PatternSequenceNumber}
use Rattle.tsb_objects.specs.tsb_plan.declared.plan.patterns.CorrectionMode.TheVariants.{AtOnce, ShortWay}
use Rattle.tsb_objects.specs.tsb_plan.Parts.{correction_mode}
use Rattle.tsb_objects.specs.tsb_plan.Plan.{Plan, with_values}
use Rattle.tsb_objects.specs.tsb_plan.Two.{two}
use Rattle.tsb_objects.specs.tsb_rules.Rules.{first_broken}
use Rattle.tsb_coord.specs.Correction.{in_step, is_in_step}
use Rattle.tsb_step.specs.declared.inputs.Input.{Input}
use Rattle.tsb_step.specs.declared.inputs.Input.TheVariants.{Pattern}
use Rattle.tsb_step.specs.State.{State, interval}
use Rattle.tsb_step.specs.Signs.{local, IsInStep}
use Rattle.tsb_step.specs.Runs.{replay, AreTaken}
use Rattle.tsb_step.proofs.Examples.Scenes.{opened}
use Rattle.tsb_step.proofs.Examples.TimeRuns.{brisk, paced, ticks_after}

-- ## In step at once

abbrev second_values : List (Object × ℕ × ℕ)
second_values = (PatternCycleTime, 2, 10) ∷ (PatternOffsetTime, 2, 7) ∷ (PatternSplitNumber, 2, 1) ∷ (PatternSequenceNumber, 2, 1) ∷ []

unfoldable pub second : Plan
second = with_values paced second_values

second_rules : first_broken second ≡ None
unfolding opened second paced brisk two
second_rules = refl

-- pattern 1 is selected at tick 0, and pattern 2 at tick 10
abbrev ten_ticks : List Input
ten_ticks = ticks_after (Pattern 1 ∷ []) 10

abbrev pub reselected : List Input
reselected = Pattern 2 ∷ ten_ticks

second_taken : AreTaken second reselected
unfolding opened second paced brisk two
second_taken = ((((((((((((tt, refl), refl), refl), refl), refl), refl), refl), refl), refl), refl), refl), refl)

-- so many ticks later
abbrev pub second_at : ℕ → State
second_at n = replay second (ticks_after reselected n)

off_at_once : correction_mode (second_at 0).plan ≡ AtOnce
unfolding opened second paced brisk two
off_at_once = refl

-- the local counter jumps from 10 to 40
stands_at_10 : local (replay second ten_ticks) ≡ Some 10
unfolding opened second paced brisk two
stands_at_10 = refl

jumps_to_40 : map (λ n. local (second_at n)) (0 ∷ 1 ∷ []) ≡ Some 40 ∷ Some 41 ∷ []
unfolding opened second paced brisk two
jumps_to_40 = refl

none_is_ahead : (second_at 0).correction ≡ in_step
unfolding opened second paced brisk two
none_is_ahead = refl

-- ## By the short way: 70 ahead, it is faster, and takes two steps in each tick

abbrev hurried_values : List (Object × ℕ × ℕ)
hurried_values = (CoordCorrectionMode, 1, 2) ∷ (CoordCorrectionLimit, 1, 50) ∷ []

unfoldable pub hurried : Plan
hurried = with_values second hurried_values

hurried_rules : first_broken hurried ≡ None
unfolding opened hurried second paced brisk two
hurried_rules = refl

hurried_taken : AreTaken hurried reselected
unfolding opened hurried second paced brisk two
hurried_taken = ((((((((((((tt, refl), refl), refl), refl), refl), refl), refl), refl), refl), refl), refl), refl)

abbrev pub hurried_at : ℕ → State
hurried_at n = replay hurried (ticks_after reselected n)

takes_the_short_way : correction_mode (hurried_at 0).plan ≡ ShortWay
unfolding opened hurried second paced brisk two
takes_the_short_way = refl

is_ahead_70 : (hurried_at 0).correction ≡ record { since = 10; ahead = 70; midnight = 0 }
unfolding opened hurried second paced brisk two
is_ahead_70 = refl

-- it goes on from 10, and is in step 30 ticks later, at 70
goes_on : map (λ n. local (hurried_at n)) (0 ∷ 1 ∷ 2 ∷ 29 ∷ 30 ∷ 31 ∷ []) ≡ Some 10 ∷ Some 12 ∷ Some 14 ∷ Some 68 ∷ Some 70 ∷ Some 71 ∷ []
unfolding opened hurried second paced brisk two
goes_on = refl

comes : map (λ n. is_in_step (hurried_at n).plan (hurried_at n).pattern (hurried_at n).correction (hurried_at n).now) (0 ∷ 29 ∷ 30 ∷ 31 ∷ [])
    ≡ false ∷ false ∷ true ∷ true ∷ []
unfolding opened hurried second paced brisk two
comes = refl

has_come : IsInStep (hurried_at 30)
unfolding opened hurried second paced brisk two
has_come = refl

-- the green of 2 ends 25 ticks later, at 60, where one in step at once has 20 more
ends_at_60 : map (λ n. interval (hurried_at n) 2) (24 ∷ 25 ∷ []) ∷ map (λ n. interval (second_at n) 2) (19 ∷ 20 ∷ []) ∷ []
    ≡ (Green ∷ Yellow ∷ []) ∷ (Green ∷ Yellow ∷ []) ∷ []
unfolding opened hurried second paced brisk two
ends_at_60 = refl
