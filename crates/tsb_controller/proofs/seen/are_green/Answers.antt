use Rattle.tsb_controller.proofs.SeenLemmas.{greens-told}
use Rattle.tsb_controller.proofs.seen.are_green.Goals as goal

pub returns : goal.returns
returns c plan list many is =
    greens-told plan c.args.intervals.now list c.args.phases c.difference.result _ _ many is c.difference.ensures c.first.ensures.found c.first.ensures.none
    c.is_none.ensures
