use Rattle.tsb_rules.proofs.ConsistentLemmas.{permissive}
use Rattle.tsb_rules.proofs.consistent.permissive_times_end.Goals as goal

pub returns : goal.returns
returns c = permissive
