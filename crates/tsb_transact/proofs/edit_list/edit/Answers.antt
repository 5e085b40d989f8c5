use Rattle.std.proofs.Common.{rules}
use Rattle.tsb_transact.proofs.edit_list.edit.Goals as goal

pub returns : goal.returns
returns c = search rules fits 100
