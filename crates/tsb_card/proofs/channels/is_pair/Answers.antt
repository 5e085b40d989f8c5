use Rattle.std.proofs.Common.{◌∙◌}
use Rattle.std.specs.List.{list_any}
use Rattle.tsb_plan.specs.Plan.{phases}
use Rattle.tsb_plan.specs.PlanOf.{plan_of}
use Rattle.tsb_card.specs.Pairs.{is_pair, meets}
use Rattle.tsb_card.proofs.channels.is_pair.Goals as goal

pub returns : goal.returns
unfolding is_pair
returns c =
    c.may_meet.ensures
    ∙ (λ j. list_any (meets (plan_of c.args.plan.now) (c.channel_of.ensures j) (c.channel_of-2.ensures j)) (phases (plan_of c.args.plan.now)))
