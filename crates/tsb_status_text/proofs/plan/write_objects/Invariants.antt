use Rattle.std.proofs.Common.{◌≡◌, ◌++◌, drop}
use Rattle.json.specs.Tree.{members_tokens}
use Rattle.tsb_plan.specs.PlanOf.{plan_of}
use Rattle.tsb_status_text.specs.PlanLine.{members_of}
use Rattle.tsb_status_text.proofs.plan.write_objects.Given as goal

-- what is written, and the objects that are left, are all of them
abbrev pub invariant-loop-object : goal.invariant-loop-object
invariant-loop-object l = record {
  told :
      l.writer.tokens ++ members_tokens (members_of (plan_of l.plan) (drop l.object-index l.objects))
      ≡ l.fn.writer.tokens ++ members_tokens (members_of (plan_of l.plan) l.objects);
  before : l.writer.before ≡ l.fn.writer.before;
}
