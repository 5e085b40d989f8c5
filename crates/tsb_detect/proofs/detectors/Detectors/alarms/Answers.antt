use Rattle.std.proofs.Common.{◌||◌, ◌∙◌, ap₂, Bool}
use Rattle.tsb_detect.specs.Layer.{cells_of}
use Rattle.tsb_detect.proofs.ReadLemmas.{alarms-told}
use Rattle.tsb_detect.proofs.detectors.Detectors.alarms.Goals as goal

abbrev either : Bool → Bool → Bool
either a b = a || b

pub returns : goal.returns
returns c = alarms-told (cells_of c.args.self.now) _
    (λ d. c.union-2.ensures d ∙ ap₂ either (c.union.ensures d ∙ ap₂ either (c.list.ensures d) (c.list-2.ensures d)) (c.list-3.ensures d))
