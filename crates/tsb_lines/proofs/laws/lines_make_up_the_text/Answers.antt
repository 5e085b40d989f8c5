use Rattle.tsb_lines.proofs.LawLemmas.{make-up, no-feed}
use Rattle.tsb_lines.proofs.laws.lines_make_up_the_text.Goals as goal

pub returns-clause-whole : goal.returns-clause-whole
returns-clause-whole c = make-up

pub returns-clause-apart : goal.returns-clause-apart
returns-clause-apart c = no-feed
