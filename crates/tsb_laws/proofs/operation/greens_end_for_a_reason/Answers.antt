use Rattle.tsb_laws.proofs.operation.green.GreenEndLemmas.{ends_for_a_reason}
use Rattle.tsb_laws.proofs.operation.greens_end_for_a_reason.Goals as goal

pub returns : goal.returns
returns c plan is row p ok few taken dark x = ends_for_a_reason plan is row p ok few taken dark x
