use Rattle.std.proofs.Common.{rules}
use Rattle.tsb_words.proofs.wrong.wrong_at.Goals as goal

pub returns-then-not-has_name : goal.returns-then-not-has_name
returns-then-not-has_name g c = search rules fits 100
