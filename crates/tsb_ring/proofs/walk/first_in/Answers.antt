use Rattle.std.proofs.Common.{rules, ◌∙◌, sym, refl}
use Rattle.tsb_types.specs.Sets.{has}
use Rattle.tsb_ring.proofs.PlaceLemmas.{zero-none}
use Rattle.tsb_ring.proofs.walk.first_in.Goals as goal

pub returns-then-places-k-eq0 : goal.returns-then-places-k-eq0
returns-then-places-k-eq0 c =
    sym (c.loop-k.invariant ∙ zero-none (has c.args.set) refl c.args.places.now c.loop-k.k (search rules) (search rules) c.requires.zeros)
