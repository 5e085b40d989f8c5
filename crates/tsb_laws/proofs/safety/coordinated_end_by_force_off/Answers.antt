use Rattle.tsb_laws.proofs.safety.CoordinationLemmas.{ends_by_force_off}
use Rattle.tsb_laws.proofs.safety.coordinated_end_by_force_off.Goals as goal

pub returns : goal.returns
returns c = ends_by_force_off
