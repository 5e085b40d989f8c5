use Rattle.tsb_overlap.specs.Layer.{cells_of}
use Rattle.tsb_overlap.proofs.CellLemmas.{elsewhere-overlaps, elsewhere-by}
use Rattle.tsb_overlap.proofs.timed_overlaps.TimedOverlaps.omit.Goals as goal

pub returns-clause-state : goal.returns-clause-state
returns-clause-state c = record {
  omitted = c.put_omitted.ensures.told;
  overlaps = λ now o from to. elsewhere-overlaps now (cells_of c.args.self.now) (cells_of c.put_omitted.new.self) c.put_omitted.ensures.others o from to;
}

pub returns-clause-by : goal.returns-clause-by
returns-clause-by c = λ now by.
    elsewhere-by now (cells_of c.args.self.now) (cells_of c.put_omitted.new.self) c.put_omitted.new.self.bank.cells_full c.put_omitted.ensures.others c.put_omitted.ensures.small by
