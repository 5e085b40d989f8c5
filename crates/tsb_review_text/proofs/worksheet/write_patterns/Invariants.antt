use Rattle.std.proofs.Common.{drop, flat_map}
use Rattle.tsb_plan.specs.PlanOf.{plan_of}
use Rattle.tsb_lines.specs.Seen.{seen}
use Rattle.tsb_review_text.specs.Worksheet.{pattern_text, patterns_text}
use Rattle.tsb_lines.proofs.StreamLemmas.{Went}
use Rattle.tsb_review_text.proofs.worksheet.write_patterns.Given as goal

-- what has gone out, and what is left, are all
abbrev pub invariant-loop-pattern : goal.invariant-loop-pattern
invariant-loop-pattern g l = Went (seen g.W.Write.contents l.fn.output) (seen g.W.Write.contents l.output) (patterns_text (plan_of l.plan)) (flat_map (pattern_text (plan_of l.plan)) (drop l.pattern-index l.pattern-items))
