use Rattle.std.proofs.Common.{refl}
use Rattle.tsb_heads.specs.Reading.{shown_by}
use Rattle.tsb_heads.proofs.lasting.keeps_green.Goals as goal

pub returns : goal.returns
returns c = λ pedestrians lights tripped.
    c.is_kept.ensures (shown_by c.args.intervals.now pedestrians c.args.ring_1 c.args.ring_2 lights tripped)
    (c.find_served.ensures (shown_by c.args.intervals.now pedestrians c.args.ring_1 c.args.ring_2 lights tripped) (λ p. refl) (λ r. refl))
