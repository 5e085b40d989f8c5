use Rattle.std.proofs.Common.{◌∙◌}
use Rattle.tsb_controller.proofs.StatusSetLemmas.{arrows-told}
use Rattle.tsb_controller.proofs.status.has_arrows.Goals as goal

pub returns : goal.returns
returns c =
    c.is_some.ensures
    ∙ arrows-told c.args.plan.now c.arrows.result c.first.result c.arrows.ensures c.first.ensures.none c.first.ensures.from_one c.first.ensures.within c.first.ensures.had
