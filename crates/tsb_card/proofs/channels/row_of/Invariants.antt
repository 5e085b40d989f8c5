use Rattle.std.proofs.Common.{◌≡◌, ℕ, ◌&&◌, nat_lt}
use Rattle.tsb_plan.specs.PlanOf.{plan_of}
use Rattle.tsb_types.specs.Sets.{has_number}
use Rattle.tsb_card.specs.Pairs.{is_pair}
use Rattle.tsb_card.proofs.channels.row_of.Given as goal

-- the channels so far are there where they are pairs
abbrev pub invariant-loop-higher : goal.invariant-loop-higher
invariant-loop-higher l = (b : ℕ) → has_number l.row b ≡ ((nat_lt l.lower b && nat_lt b l.higher) && is_pair (plan_of l.plan) l.lower b)
