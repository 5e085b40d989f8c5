use Rattle.std.proofs.Common.{◌≡◌, drop}
use Rattle.tsb_plan.specs.PlanOf.{plan_of}
use Rattle.tsb_rules.specs.SequenceRules.{rises}
use Rattle.tsb_rules.proofs.rules.sequences.rises.Given as goal

abbrev pub invariant-loop-place : goal.invariant-loop-place
invariant-loop-place l =
    rises (plan_of l.plan) (drop l.place l.places) ≡ rises (plan_of l.plan) l.places
