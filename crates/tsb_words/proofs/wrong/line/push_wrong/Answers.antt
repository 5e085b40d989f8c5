use Rattle.std.proofs.Common.{rules}
use Rattle.tsb_words.proofs.wrong.line.push_wrong.Goals as goal

pub returns-in-Twice : goal.returns-in-Twice
returns-in-Twice c = search rules fits 100
