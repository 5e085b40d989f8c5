use Rattle.tsb_phase.proofs.DueLemmas.{off-not}
use Rattle.tsb_phase.proofs.due.until.Goals as goal

pub returns-then-cell-eq0 : goal.returns-then-cell-eq0
returns-then-cell-eq0 c = λ t within soon. off-not t c.args.cell c.args.limit c.if-cell-eq0.true
