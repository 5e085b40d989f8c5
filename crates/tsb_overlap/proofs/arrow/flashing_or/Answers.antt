use Rattle.tsb_overlap.specs.declared.parts.OverlapInterval.TheVariants.{Flashing}
use Rattle.tsb_overlap.specs.Overlap.{standing}
use Rattle.tsb_overlap.proofs.PartLemmas.{then-part}
use Rattle.tsb_overlap.proofs.arrow.flashing_or.Goals as goal

pub returns-then-flashes : goal.returns-then-flashes
returns-then-flashes c = λ now said is. then-part c.args.flashes now (standing Flashing) said c.standing.result c.if-flashes.true (c.standing.ensures now)
