use Rattle.std.proofs.Common.{◌≡◌, ℕ, ◌<◌, ◌≤◌, true}
use Rattle.tsb_plan.specs.PlanOf.{plan_of}
use Rattle.tsb_card.specs.Pairs.{is_unnamed}
use Rattle.tsb_card.proofs.channels.names_none.Given as goal

-- none is named so far
abbrev pub invariant-loop-channel : goal.invariant-loop-channel
invariant-loop-channel l = (c : ℕ) → 1 ≤ c → c < l.channel → is_unnamed (plan_of l.plan) c ≡ true
