use Rattle.tsb_laws.proofs.operation.pattern.PatternRunLemmas.{served_in_pattern, coordinated_in_time}
use Rattle.tsb_laws.proofs.operation.phases_are_served_in_patterns.Goals as goal

pub returns-clause-called : goal.returns-clause-called
returns-clause-called c = served_in_pattern

pub returns-clause-coordinated : goal.returns-clause-coordinated
returns-clause-coordinated c = coordinated_in_time
