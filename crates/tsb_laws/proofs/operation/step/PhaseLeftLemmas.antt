-- How many ticks are left until a phase has cleared, and until it has reverted, by the times of a plan. For the laws
-- that called phases are served, in free operation and in patterns.
use Rattle.std.proofs.Common.{◌≡◌, ℕ, ◌+◌, ◌*◌, ◌≤◌, refl, arith}
use Rattle.tsb_step.specs.tsb_types.declared.interval.Interval.{Interval}
use Rattle.tsb_step.specs.tsb_types.declared.interval.Interval.TheVariants.{Red, Green, Yellow, RedClear}
use Rattle.tsb_step.specs.tsb_plan.Plan.{Plan, yellow_change, red_clear, red_revert}
use Rattle.tsb_step.specs.tsb_phase.Phase.{Phase}
use Rattle.tsb_step.specs.State.{State, interval}
use Rattle.tsb_laws.proofs.operation.step.PhaseTimeLemmas.{left, past, clearing_in, clearing_left, revert_in, revert_left, left_most, past_most}

abbrev pub clear_left : Plan → ℕ → Phase → ℕ
clear_left plan p x = clearing_left (yellow_change plan p) (red_clear plan p) x

abbrev pub back_left : Plan → ℕ → Phase → ℕ
back_left plan p x = revert_left (yellow_change plan p) (red_revert plan p) x

pub clear_most : (plan : Plan) (p : ℕ) (x : Phase) → clear_left plan p x ≤ yellow_change plan p + red_clear plan p
clear_most plan p x = go x.interval
  where
    go : (i : Interval) → clearing_in (yellow_change plan p) (red_clear plan p) x.timer i ≤ yellow_change plan p + red_clear plan p
    go Red = omega arith
    go Green = omega arith
    go Yellow = let most = left_most (yellow_change plan p) x.timer in omega (arith, most)
    go RedClear = let most = left_most (red_clear plan p) x.timer in omega (arith, most)

-- of a phase that is Red
pub back_most : (plan : Plan) (p : ℕ) (x : Phase) → x.interval ≡ Red → back_left plan p x ≤ red_revert plan p
back_most plan p x e = rw e (past_most (red_revert plan p) x.red_revert)

-- the red revert of a phase, in whatever interval
pub back_all : (plan : Plan) (p k : ℕ) (x : Phase) → yellow_change plan p + red_clear plan p ≤ k → red_revert plan p ≤ k → back_left plan p x ≤ 2 * k
back_all plan p k x most_y most_r = go x.interval
  where
    first : left (yellow_change plan p) x.timer ≤ yellow_change plan p
    first = left_most (yellow_change plan p) x.timer

    second : past (red_revert plan p) x.red_revert ≤ red_revert plan p
    second = past_most (red_revert plan p) x.red_revert

    go : (i : Interval) → revert_in (yellow_change plan p) (red_revert plan p) x.timer x.red_revert i ≤ 2 * k
    go Red = omega (arith, second, most_r)
    go Green = omega arith
    go Yellow = omega (arith, first, most_y, most_r)
    go RedClear = omega (arith, second, most_r)

-- of a phase that is Red
pub clear_none : (plan : Plan) (p : ℕ) (s : State) → interval s p ≡ Red → clear_left plan p (s.phases p) ≡ 0
clear_none plan p s e = rw e refl
