use Rattle.std.proofs.Common.{◌≡◌}
use Rattle.serde_json.specs.View.{members_view}
use Rattle.tsb_plan.specs.PlanOf.{plan_of}
use Rattle.tsb_plan_text.specs.PlanText.{with_members}
use Rattle.tsb_plan_text.proofs.read.read_members.Given as goal

-- the members that are left lead from this plan to what all of them lead to
abbrev pub invariant-loop-name : goal.invariant-loop-name
invariant-loop-name l =
    with_members l.fn.version (members_view l.fn.members.entries) (plan_of l.fn.plan)
    ≡ with_members l.fn.version (members_view l.name-iterator) (plan_of l.plan)
