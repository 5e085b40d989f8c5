use Rattle.std.proofs.Common.{◌∙◌, ℕ, ◌/◌, ap, sym, length-set}
use Rattle.tsb_cells.proofs.BlockLemmas.{kept-put, length_kept}
use Rattle.tsb_cells.proofs.bank.Bank.put.Goals as goal

pub invariant_of-self-clause-cells_full : goal.invariant_of-self-clause-cells_full
invariant_of-self-clause-cells_full g c = length-set c.keep_block.new.self.cells c.args.at c.args.value ∙ c.keep_block.new.self.cells_full

pub invariant_of-self-clause-kept_full : goal.invariant_of-self-clause-kept_full
invariant_of-self-clause-kept_full g c = length_kept _ _ _ _

pub returns-then-self-at-clause-kept : goal.returns-then-self-at-clause-kept
returns-then-self-at-clause-kept g c =
    kept-put g.row.N c.keep_block.new.self.written c.args.at c.args.value c.keep_block.new.self.cells c.keep_block.new.self.before
    (c.keep_block.ensures.marked c.args.at (sym (ap (λ (b : ℕ). c.args.at / b) c.block.ensures)))
    ∙ c.keep_block.ensures.kept
