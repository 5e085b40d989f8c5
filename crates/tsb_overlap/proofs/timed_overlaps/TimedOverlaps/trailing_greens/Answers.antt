use Rattle.std.proofs.Common.{◌∙◌, ap, sym}
use Rattle.tsb_overlap.specs.Overlap.{Overlap, is_trail_green}
use Rattle.tsb_overlap.specs.Layer.{cells_of}
use Rattle.tsb_overlap.proofs.CellLemmas.{trail-read, overlap_in-part}
use Rattle.tsb_overlap.proofs.timed_overlaps.TimedOverlaps.trailing_greens.Goals as goal

pub returns : goal.returns
returns c = λ now o by from to.
    c.listed.ensures o ∙ trail-read (cells_of c.args.self.now) o (by.each o from to).apart
    ∙ ap (λ (x : Overlap). is_trail_green x.interval) (sym (overlap_in-part now (cells_of c.args.self.now) o from to))
