use Rattle.std.proofs.Common.{sym, subst}
use Rattle.tsb_transact.specs.Cells.{desk_in}
use Rattle.tsb_transact.specs.Rows.{IsRow}
use Rattle.tsb_transact.specs.Layer.{cells_of}
use Rattle.tsb_transact.proofs.DeskLemmas.{settable}
use Rattle.tsb_transact.proofs.desk.Desk.take_edit.Goals as goal

pub edit_transaction-requires-clause-owned : goal.edit_transaction-requires-clause-owned
edit_transaction-requires-clause-owned c = (settable c.requires.allowed.0 c.args.id c.args.value (desk_in (cells_of c.args.self.now)) c.requires.allowed.1).owned

pub edit_transaction-requires-clause-taken : goal.edit_transaction-requires-clause-taken
edit_transaction-requires-clause-taken c = (settable c.requires.allowed.0 c.args.id c.args.value (desk_in (cells_of c.args.self.now)) c.requires.allowed.1).taken

pub edit_transaction-requires-clause-space : goal.edit_transaction-requires-clause-space
edit_transaction-requires-clause-space c = (settable c.requires.allowed.0 c.args.id c.args.value (desk_in (cells_of c.args.self.now)) c.requires.allowed.1).space

pub invariant_of-self : goal.invariant_of-self
invariant_of-self c = record {
  row = c.edit_transaction.ensures.leaves.allowed;
  kept_row = subst IsRow (sym c.edit_transaction.ensures.kept) c.args.self.now.kept_row;
  tied = sym c.edit_transaction.ensures.leaves.pairs;
  room = c.edit_transaction.ensures.room;
}
