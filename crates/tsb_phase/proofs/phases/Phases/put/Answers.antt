use Rattle.std.proofs.Common.{ℕ, ap, ◌∙◌}
use Rattle.tsb_cells.specs.Bank as bank
use Rattle.tsb_objects.specs.tsb_types.Sets.{names}
use Rattle.tsb_phase.specs.Cells.{half}
use Rattle.tsb_phase.specs.Layer.{cells_of}
use Rattle.tsb_phase.proofs.RowLemmas.{half-written, other-lists}
use Rattle.tsb_phase.proofs.phases.Phases.put.Goals as goal

pub returns-clause-told : goal.returns-clause-told
returns-clause-told c = λ p.
    ap (λ (list : ℕ). names list p) (half-written (cells_of c.args.self.now) (bank.cells_of c.put.new.self) c.args.k _ _ c.put.ensures.here c.with_half.ensures.own)
    ∙ c.list.ensures p

pub returns-clause-others : goal.returns-clause-others
returns-clause-others c =
    other-lists (cells_of c.args.self.now) (bank.cells_of c.put.new.self) c.args.k _ c.put.ensures.here c.put.ensures.others
    (λ i below apart. c.with_half.ensures.other i below apart ∙ ap (half i) c.get-cell.ensures)
