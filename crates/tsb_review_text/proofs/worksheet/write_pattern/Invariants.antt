use Rattle.std.proofs.Common.{drop, flat_map}
use Rattle.tsb_plan.specs.PlanOf.{plan_of}
use Rattle.tsb_lines.specs.Seen.{seen}
use Rattle.tsb_review_text.specs.Worksheet.{pattern_text, share_text}
use Rattle.tsb_lines.proofs.StreamLemmas.{Went}
use Rattle.tsb_review_text.proofs.worksheet.write_pattern.Given as goal

-- what has gone out, and what is left, are all
abbrev pub invariant-loop-phase : goal.invariant-loop-phase
invariant-loop-phase g l = Went (seen g.W.Write.contents l.fn.output) (seen g.W.Write.contents l.output) (pattern_text (plan_of l.plan) l.pattern) (flat_map (share_text (plan_of l.plan) l.pattern) (drop l.phase-index l.phase-items))
