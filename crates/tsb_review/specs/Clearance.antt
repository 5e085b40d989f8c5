-- Advices on clearance: A15, A16 and A57. Times are in tenths of a second.
use Rattle.std.specs.Prelude.{ℕ, ◌==◌, nat_lt, Bool, not, ◌&&◌, Option, is_some}
use Rattle.std.specs.List.{list_any}
use Rattle.tsb_types.specs.Lists.{first}
use Rattle.tsb_plan.specs.Plan.{Plan, phases, is_enabled, side_of, red_clear, red_revert}
use Rattle.tsb_review.specs.Calls.{is_for_pedestrians}

-- q is an enabled phase of another side than p
abbrev pub is_across : Plan → ℕ → ℕ → Bool
is_across plan p q = is_enabled plan q && not (side_of plan p == side_of plan q)

-- A15: p, which is not for pedestrians alone, has no red clearance, and there are phases across the barrier
abbrev pub clears_without_red : Plan → ℕ → Bool
clears_without_red plan p =
    is_enabled plan p && (not (is_for_pedestrians plan p) && (red_clear plan p == 0 && list_any (is_across plan p) (phases plan)))

-- p is enabled, and its red revert is under 2 seconds
abbrev pub reverts_soon : Plan → ℕ → Bool
reverts_soon plan p = is_enabled plan p && nat_lt (red_revert plan p) 20

-- the first such phase
abbrev pub reverting : Plan → Option ℕ
reverting plan = first (reverts_soon plan) (phases plan)

-- A16: the red revert of some phase is under 2 seconds
abbrev pub has_short_revert : Plan → Bool
has_short_revert plan = is_some (reverting plan)

-- A57: the red clearance of p is over 0 and under 0.5 seconds
abbrev pub clears_too_soon : Plan → ℕ → Bool
clears_too_soon plan p = is_enabled plan p && (nat_lt 0 (red_clear plan p) && nat_lt (red_clear plan p) 5)
