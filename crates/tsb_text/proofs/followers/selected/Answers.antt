use Rattle.std.proofs.Common.{rules}
use Rattle.tsb_text.proofs.followers.selected.Goals as goal

pub returns-then-eq : goal.returns-then-eq
returns-then-eq c = search rules fits 100

pub returns : goal.returns
returns c = search rules fits 100
