use Rattle.std.proofs.Common.{◌≡◌, ◌≤◌, drop, max}
use Rattle.tsb_types.specs.declared.limits.TheConstants.{OVERLAPS}
use Rattle.tsb_types.specs.Lists.{run_from}
use Rattle.tsb_plan.specs.PlanOf.{plan_of}
use Rattle.tsb_review.specs.Worksheet.{greatest_of, held_by}
use Rattle.tsb_review.proofs.worksheet.held.Given as goal

-- the greatest so far and that of what is left make the greatest of all
abbrev pub invariant-loop-overlap : goal.invariant-loop-overlap
invariant-loop-overlap l = record {
  whole : max l.longest (greatest_of (held_by (plan_of l.plan) l.phase) (drop l.overlap-index l.overlap-items)) ≡ greatest_of (held_by (plan_of l.plan) l.phase) (run_from 1 OVERLAPS);
  range : l.longest ≤ 510;
}
