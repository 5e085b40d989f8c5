use Rattle.std.proofs.Common.{rules}
use Rattle.tsb_words.proofs.pages.subcommand_page.Goals as goal

pub returns-then-eq-8 : goal.returns-then-eq-8
returns-then-eq-8 c = search rules fits 100
