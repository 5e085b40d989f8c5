use Rattle.std.proofs.Common.{sym, ◌∙◌, arith}
use Rattle.tsb_preempt.proofs.IdleLemmas.{none-named}
use Rattle.tsb_preempt.proofs.cells.names_preempt.Goals as goal

pub returns : goal.returns
returns c = λ off n from within. sym (c.list.ensures n) ∙ none-named c.list.result n (grind (arith, off)) from within
