-- The longest of the red revert times of a plan.
use Rattle.std.specs.Prelude.{◌≡◌, ℕ, ◌≤◌, ◌==◌, true}
use Rattle.tsb_plan.specs.Plan.{Plan, phases, red_revert}
use Rattle.tsb_types.specs.Lists.{some_passes}

-- no phase's red revert is longer than this time, in tenths of a second, and that of some phase is this time
pub record IsLongestRedRevert (plan : Plan) (time : ℕ) : Type 0 where
  pub none_longer : (p : ℕ) → 1 ≤ p → p ≤ 16 → red_revert plan p ≤ time
  pub of_some : some_passes (λ p. red_revert plan p == time) (phases plan) ≡ true
