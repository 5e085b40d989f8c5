use Rattle.std.proofs.Common.{rules}
use Rattle.tsb_words.proofs.field_files.other_asked.Goals as goal

pub returns-then-eq-3 : goal.returns-then-eq-3
returns-then-eq-3 c = search rules fits 100

pub returns-else-eq-6 : goal.returns-else-eq-6
returns-else-eq-6 c = search rules fits 100
