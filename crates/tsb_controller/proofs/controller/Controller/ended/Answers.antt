use Rattle.std.proofs.Common.{◌∙◌, ◌&&◌, Bool, ap}
use Rattle.tsb_step.specs.tsb_types.Intervals.{is_green}
use Rattle.tsb_step.specs.tsb_types.Sets.{has}
use Rattle.tsb_controller.proofs.TickLemmas.{green-set}
use Rattle.tsb_controller.proofs.controller.Controller.ended.Goals as goal

pub returns : goal.returns
returns c now p from to =
    c.intersection.ensures p ∙ ap (λ (x : Bool). x && has c.args.yellow p) (green-set c.intervals.result p ∙ ap is_green (c.intervals.ensures now p from to))
