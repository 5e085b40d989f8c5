use Rattle.tsb_log_text.proofs.LawLemmas.{in-force, off-before}
use Rattle.tsb_log_text.proofs.laws.rows_are_in_force_to_the_next.Goals as goal

pub returns-clause-greatest : goal.returns-clause-greatest
returns-clause-greatest c = in-force

pub returns-clause-none : goal.returns-clause-none
returns-clause-none c = off-before
