use Rattle.std.proofs.Common.{◌≡◌}
use Rattle.serde_json.specs.View.{members_view}
use Rattle.tsb_plan.specs.Plan.{Plan}
use Rattle.tsb_plan_text.specs.PlanText.{noted}
use Rattle.tsb_plan_text.proofs.notes.read_texts.Given as goal

-- the notes that are left lead to what all of them lead to
abbrev pub invariant-loop-name : goal.invariant-loop-name
invariant-loop-name l = (plan : Plan) →
    noted (members_view l.fn.table.entries) plan ≡ noted (members_view l.name-iterator) plan
