use Rattle.std.proofs.Common.{◌∙◌, ap}
use Rattle.tsb_objects.specs.Checked.{checked_plan}
use Rattle.tsb_objects.specs.tsb_rules.SequenceRules.{zeros_last}
use Rattle.tsb_objects.specs.tsb_plan.Plan.{Plan, sequence}
use Rattle.tsb_ring.proofs.PlaceLemmas.{sequence-zeros}
use Rattle.tsb_ring.proofs.wanting.places.Goals as goal

pub returns-clause-zeros : goal.returns-clause-zeros
returns-clause-zeros c =
    ap zeros_last (c.sequence.ensures.places ∙ ap (λ (plan : Plan). sequence plan c.args.s c.args.r) c.plan.ensures.plan)
    ∙ sequence-zeros (checked_plan c.args.plan.now) c.plan.ensures.consistent c.args.s c.args.r
    c.known.ensures.from c.known.ensures.within c.known-2.ensures.from c.known-2.ensures.within
