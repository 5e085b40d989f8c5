use Rattle.std.proofs.Common.{◌≡◌, ◌≤◌, drop, max}
use Rattle.tsb_types.specs.Lists.{run_from}
use Rattle.tsb_plan.specs.PlanOf.{plan_of}
use Rattle.tsb_review.specs.Worksheet.{greatest_of, time_of}
use Rattle.tsb_review.proofs.worksheet.greatest.Given as goal

-- the greatest so far and that of what is left make the greatest of all
abbrev pub invariant-loop-phase : goal.invariant-loop-phase
invariant-loop-phase l = record {
  whole : max l.greatest (greatest_of (time_of l.time (plan_of l.plan)) (drop l.phase-index l.phase-items)) ≡ greatest_of (time_of l.time (plan_of l.plan)) (run_from 1 16);
  range : l.greatest ≤ 1310700;
}
