use Rattle.tsb_rules.proofs.ConsistentLemmas.{first_lists, used_lists}
use Rattle.tsb_rules.proofs.consistent.sequences_list_rings.Goals as goal

pub returns-clause-first : goal.returns-clause-first
returns-clause-first c = first_lists

pub returns-clause-used : goal.returns-clause-used
returns-clause-used c = used_lists
