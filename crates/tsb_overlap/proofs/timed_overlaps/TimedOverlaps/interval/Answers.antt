use Rattle.std.proofs.Common.{◌∙◌, ap}
use Rattle.tsb_overlap.specs.Cells.{listed, interval_in}
use Rattle.tsb_overlap.specs.Layer.{cells_of}
use Rattle.tsb_overlap.proofs.ListLemmas.{same-lists}
use Rattle.tsb_overlap.proofs.timed_overlaps.TimedOverlaps.interval.Goals as goal

pub returns : goal.returns
unfolding interval_in
returns c =
    c.interval_by.ensures
    ∙ same-lists _ _ _ _ _ _ _ _ _ _
    (c.contains.ensures ∙ c.listed.ensures c.number-n.result ∙ ap (listed (cells_of c.args.self.now) 0) c.number-n.ensures.same)
    (c.contains-2.ensures ∙ c.listed-2.ensures c.number-n.result ∙ ap (listed (cells_of c.args.self.now) 1) c.number-n.ensures.same)
    (c.contains-3.ensures ∙ c.listed-3.ensures c.number-n.result ∙ ap (listed (cells_of c.args.self.now) 2) c.number-n.ensures.same)
    (c.contains-4.ensures ∙ c.listed-4.ensures c.number-n.result ∙ ap (listed (cells_of c.args.self.now) 3) c.number-n.ensures.same)
    (c.contains-5.ensures ∙ c.listed-5.ensures c.number-n.result ∙ ap (listed (cells_of c.args.self.now) 4) c.number-n.ensures.same)
