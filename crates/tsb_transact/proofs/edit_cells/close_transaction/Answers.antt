use Rattle.std.proofs.Common.{arith, sym, ◌∙◌}
use Rattle.tsb_cells.specs.Bank.{cells_of}
use Rattle.tsb_transact.proofs.DeskLemmas.{closes}
use Rattle.tsb_transact.proofs.edit_cells.close_transaction.Goals as goal

pub returns-clause-leaves : goal.returns-clause-leaves
returns-clause-leaves c =
    let l = closes (cells_of c.blank.new.bank) c.blank.new.bank.cells_full c.blank.ensures.zero in
    record { allowed = l.allowed; desk = l.desk; pairs = l.pairs ∙ sym c.clear.ensures.empty }

pub returns-clause-room : goal.returns-clause-room
returns-clause-room c = omega (arith, c.clear.ensures.capacity, c.requires.room)
