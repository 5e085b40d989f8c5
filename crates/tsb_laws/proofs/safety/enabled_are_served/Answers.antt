use Rattle.tsb_laws.proofs.safety.EnabledLemmas.{enabled_run}
use Rattle.tsb_laws.proofs.safety.enabled_are_served.Goals as goal

pub returns : goal.returns
returns c plan is ok taken = record { serves = (enabled_run plan is ok taken).serves; promised = (enabled_run plan is ok taken).promised }
