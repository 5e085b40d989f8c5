use Rattle.tsb_overlap.specs.Layer.{cells_of}
use Rattle.tsb_overlap.proofs.CellLemmas.{blank-at_power_up, blank-omitted, blank-by}
use Rattle.tsb_overlap.proofs.timed_overlaps.TimedOverlaps.reset.Goals as goal

pub returns-clause-fresh : goal.returns-clause-fresh
returns-clause-fresh c = record {
  overlaps = λ now o from to. blank-at_power_up now (cells_of c.clear.new.self) c.clear.ensures.zero o from to;
  omitted = blank-omitted (cells_of c.clear.new.self) c.clear.ensures.zero;
}

pub returns-clause-by : goal.returns-clause-by
returns-clause-by c = λ now. blank-by now (cells_of c.clear.new.self) c.clear.new.self.bank.cells_full c.clear.ensures.zero
