use Rattle.std.proofs.Common.{arith}
use Rattle.tsb_phase.proofs.DueLemmas.{on-before}
use Rattle.tsb_phase.proofs.due.until_on.Goals as goal

pub returns : goal.returns
returns c = λ t within soon.
    let added = c.saturating_add.ensures in
    on-before t c.args.cell c.args.limit c.requires.on within (omega (arith, added, soon))
