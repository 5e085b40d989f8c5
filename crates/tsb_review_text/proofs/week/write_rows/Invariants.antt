use Rattle.std.proofs.Common.{◌-◌, flat_map}
use Rattle.tsb_types.specs.Lists.{run_from}
use Rattle.tsb_plan.specs.PlanOf.{plan_of}
use Rattle.tsb_lines.specs.Seen.{seen}
use Rattle.tsb_review_text.specs.Week.{row_of}
use Rattle.tsb_lines.proofs.StreamLemmas.{Went}
use Rattle.tsb_review_text.proofs.week.write_rows.Given as goal

-- what has gone out, and what is left, are all
abbrev pub invariant-loop-minute : goal.invariant-loop-minute
invariant-loop-minute g l = Went (seen g.W.Write.contents l.fn.output) (seen g.W.Write.contents l.output) (flat_map (row_of (plan_of l.plan) l.first) (run_from 0 10080)) (flat_map (row_of (plan_of l.plan) l.first) (run_from l.minute (10080 - l.minute)))
