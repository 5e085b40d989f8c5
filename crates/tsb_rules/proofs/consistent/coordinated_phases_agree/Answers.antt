use Rattle.tsb_rules.proofs.ConsistentLemmas.{whole, coordinated}
use Rattle.tsb_rules.proofs.consistent.coordinated_phases_agree.Goals as goal

pub returns-clause-whole : goal.returns-clause-whole
returns-clause-whole c = whole

pub returns-clause-coordinated : goal.returns-clause-coordinated
returns-clause-coordinated c = coordinated
