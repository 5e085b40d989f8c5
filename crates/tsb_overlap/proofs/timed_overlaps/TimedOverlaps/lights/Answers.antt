use Rattle.std.proofs.Common.{◌∙◌, ◌||◌, Bool, ap, ap₂, sym}
use Rattle.tsb_overlap.specs.Overlap.{Overlap, light}
use Rattle.tsb_overlap.specs.Layer.{cells_of}
use Rattle.tsb_overlap.proofs.CellLemmas.{light-read, overlap_in-part}
use Rattle.tsb_overlap.proofs.timed_overlaps.TimedOverlaps.lights.Goals as goal

pub returns : goal.returns
returns c = λ now o from to.
    light-read (cells_of c.args.self.now) o _ _ _
    (c.union.ensures o ∙ ap₂ (λ (a b : Bool). a || b) (c.listed.ensures o) (c.listed-2.ensures o)) (c.listed-3.ensures o) (c.listed-4.ensures o)
    ∙ ap (λ (x : Overlap). light x.interval) (sym (overlap_in-part now (cells_of c.args.self.now) o from to))
