use Rattle.std.proofs.Common.{◌≡◌, ◌∷◌, [], ◌++◌, drop}
use Rattle.tsb_plan.specs.PlanOf.{plan_of}
use Rattle.tsb_lines.specs.ShortLines.{fitting}
use Rattle.tsb_review_text.specs.declared.line.TheConstants.{LONGEST}
use Rattle.tsb_review_text.specs.Bytes.{ended}
use Rattle.tsb_review_text.specs.Lines.{also}
use Rattle.tsb_review_text.proofs.line.push_patterns.Given as goal

-- the patterns so far, and those that are left, are all
abbrev pub invariant-loop-pattern : goal.invariant-loop-pattern
invariant-loop-pattern l =
    fitting LONGEST (l.line ++ ended (also (plan_of l.plan) l.finding) (10 ∷ []) (drop l.pattern-index l.patterns)) ≡ fitting LONGEST (l.fn.line ++ ended (also (plan_of l.plan) l.finding) (10 ∷ []) l.patterns)
