use Rattle.tsb_lines.proofs.ShortLemmas.{all-of}
use Rattle.std.proofs.Common.{lit≤}
use Rattle.tsb_field.proofs.card_run.large_line.Goals as goal

pub returns : goal.returns
returns c = all-of c.new-text.ensures (lit≤ tt) c.push.ensures.line
