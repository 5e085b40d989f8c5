use Rattle.std.proofs.Common.{refl}
use Rattle.std.proofs.lemmas.List.{length-replicate}
use Rattle.tsb_cells.proofs.BlockLemmas.{kept-unwritten, length_kept}
use Rattle.tsb_cells.proofs.bank.Bank.new.Goals as goal

pub invariant_of-result-clause-cells_full : goal.invariant_of-result-clause-cells_full
invariant_of-result-clause-cells_full g c = length-replicate g.row.N 0

pub invariant_of-result-clause-before_full : goal.invariant_of-result-clause-before_full
invariant_of-result-clause-before_full g c = length-replicate g.row.N 0

pub invariant_of-result-clause-kept_full : goal.invariant_of-result-clause-kept_full
invariant_of-result-clause-kept_full g c = length_kept _ _ _ _

pub invariant_of-result-clause-same_closed : goal.invariant_of-result-clause-same_closed
invariant_of-result-clause-same_closed g c = λ closed. kept-unwritten g.row.N 0 _ _ (length-replicate g.row.N 0) refl
