use Rattle.std.proofs.Common.{◌≡◌, ◌++◌, ◌-◌}
use Rattle.json.specs.Json.{object}
use Rattle.json.specs.Tree.{json_tokens, members_tokens}
use Rattle.tsb_plan.specs.PlanOf.{plan_of}
use Rattle.tsb_objects.specs.tsb_types.Lists.{run_from}
use Rattle.tsb_status_text.specs.PlanLine.{entries, table}
use Rattle.tsb_status_text.proofs.plan.write_table.Given as goal

-- what is written, and the values that are left, are all of the table
abbrev pub invariant-loop-index : goal.invariant-loop-index
invariant-loop-index l = record {
  told :
      l.writer.tokens ++ members_tokens (entries (plan_of l.plan) l.of (run_from l.index (l.index-end - l.index)))
      ≡ l.fn.writer.tokens ++ json_tokens (object (table (plan_of l.plan) l.of));
  before : l.writer.before ≡ l.fn.writer.before;
}
