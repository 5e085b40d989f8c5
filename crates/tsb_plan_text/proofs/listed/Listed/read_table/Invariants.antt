use Rattle.std.proofs.Common.{◌≡◌}
use Rattle.serde_json.specs.View.{members_view}
use Rattle.tsb_plan.specs.PlanOf.{plan_of}
use Rattle.tsb_plan_text.specs.PlanText.{with_table}
use Rattle.tsb_plan_text.proofs.listed.Listed.read_table.Given as goal

-- the entries that are left lead from this plan to what all of them lead to
abbrev pub invariant-loop-index : goal.invariant-loop-index
invariant-loop-index l =
    with_table l.fn.self.version l.fn.self.object (members_view l.fn.table.entries) (plan_of l.fn.plan)
    ≡ with_table l.fn.self.version l.fn.self.object (members_view l.index-iterator) (plan_of l.plan)
