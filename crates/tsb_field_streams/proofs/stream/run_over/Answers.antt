use Rattle.std.proofs.Common.{refl}
use Rattle.tsb_field_streams.proofs.GoingLemmas.{follows-start}
use Rattle.tsb_field_streams.proofs.stream.run_over.Goals as goal

pub returns-clause-ended : goal.returns-clause-ended
returns-clause-ended g c =
    λ given stands. c.run.ensures.ended given (follows-start given _ _ stands refl c.new.ensures)
