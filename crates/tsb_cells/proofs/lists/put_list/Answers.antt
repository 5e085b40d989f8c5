use Rattle.std.proofs.Common.{rules}
use Rattle.tsb_cells.proofs.lists.put_list.Goals as goal

pub returns-clause-told : goal.returns-clause-told
returns-clause-told g c = search rules fits 100
