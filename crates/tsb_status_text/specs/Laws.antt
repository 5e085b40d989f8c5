-- What holds of the line of every plan, and of that of every desk. Each law here is the contract of a function in src/laws.rt.
use Rattle.std.specs.Prelude.{◌≡◌, ℕ, ◌≤◌, false, Some, None, Ok}
use Rattle.json.specs.Json.{document}
use Rattle.tsb_objects.specs.tsb_rules.Rules.{first_broken}
use Rattle.tsb_plan.specs.declared.object.Object.{Object}
use Rattle.tsb_plan.specs.Objects.{has_index, greatest}
use Rattle.tsb_plan.specs.Plan.{Plan, all_counts}
use Rattle.tsb_plan_text.specs.PlanText.{reading}
use Rattle.tsb_transact.specs.Desk.{Desk}
use Rattle.tsb_transact.specs.Laws.{IsInRange}
use Rattle.tsb_status_text.specs.EditsLine.{edits_json, edits_text}
use Rattle.tsb_status_text.specs.PlanLine.{plan_text}

-- a plan as one in memory tells it: of 16 phases, 4 sides and all detectors, overlaps and preempts, each value in its
-- object's range, and 0 at an index that the object has not
pub record IsWhole (plan : Plan) : Type 0 where
  pub phases : plan.phase_count ≡ 16
  pub sides : plan.side_count ≡ 4
  pub counts : plan.counts ≡ all_counts
  pub ranged : (o : Object) (i : ℕ) → plan.value o i ≤ greatest o
  pub elsewhere : (o : Object) (i : ℕ) → has_index o i ≡ false → plan.value o i ≡ 0

-- the line of a plan that breaks no rule is read as that plan
abbrev pub AreReadBack : Type 0
AreReadBack = (plan : Plan) → IsWhole plan → first_broken plan ≡ None → reading (plan_text plan) ≡ Ok plan

-- plans of one line are one plan
abbrev pub TellPlansApart : Type 0
TellPlansApart = (plan other : Plan) → IsWhole plan → IsWhole other → plan_text plan ≡ plan_text other → plan ≡ other

-- the line of a desk is JSON, and this value
abbrev pub AreTheirJson : Type 0
AreTheirJson = (desk : Desk) → IsInRange desk → document (edits_text desk) ≡ Some (edits_json desk)

-- desks of one line are one desk
abbrev pub TellDesksApart : Type 0
TellDesksApart = (desk other : Desk) → IsInRange desk → IsInRange other → edits_text desk ≡ edits_text other → desk ≡ other
