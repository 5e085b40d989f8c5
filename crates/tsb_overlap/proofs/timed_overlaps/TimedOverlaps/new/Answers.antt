use Rattle.std.proofs.Common.{ℕ, List, ap, ◌∙◌, slice_index}
use Rattle.tsb_cells.specs.Bank as bank
use Rattle.tsb_cells.proofs.RowLemmas.{get_or-blank}
use Rattle.tsb_overlap.specs.declared.TheConstants.{CELLS}
use Rattle.tsb_overlap.proofs.CellLemmas.{blank-at_power_up, blank-omitted, blank-by}
use Rattle.tsb_overlap.proofs.timed_overlaps.TimedOverlaps.new.Goals as goal

pub returns-clause-fresh : goal.returns-clause-fresh
returns-clause-fresh c = record {
  overlaps = λ now o from to.
      blank-at_power_up now (bank.cells_of c.new.result) (λ k below. ap (λ (row : List ℕ). slice_index row k) c.new.ensures.cells ∙ get_or-blank CELLS k) o from to;
  omitted = blank-omitted (bank.cells_of c.new.result) (λ k below. ap (λ (row : List ℕ). slice_index row k) c.new.ensures.cells ∙ get_or-blank CELLS k);
}

pub returns-clause-by : goal.returns-clause-by
returns-clause-by c = λ now.
    blank-by now (bank.cells_of c.new.result) c.new.result.cells_full (λ k below. ap (λ (row : List ℕ). slice_index row k) c.new.ensures.cells ∙ get_or-blank CELLS k)
