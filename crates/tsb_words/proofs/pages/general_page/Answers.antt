use Rattle.std.proofs.Common.{rules}
use Rattle.tsb_words.proofs.pages.general_page.Goals as goal

pub returns-then-eq : goal.returns-then-eq
returns-then-eq c = search rules fits 100

pub returns-else-eq-2 : goal.returns-else-eq-2
returns-else-eq-2 c = search rules fits 100
