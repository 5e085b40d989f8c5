use Rattle.std.proofs.Common.{rules}
use Rattle.tsb_text.proofs.kept.ChangeLemmas.{behind-count}
use Rattle.tsb_text.proofs.kept.changed.row_before.Goals as goal

-- src/kept/changed.rt:63:1
pub returns-else-count-eq0 : goal.returns-else-count-eq0
returns-else-count-eq0 c = behind-count c.args.rows.now c.args.count _ (search rules) (search rules)
