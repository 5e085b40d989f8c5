use Rattle.std.proofs.Common.{rules}
use Rattle.tsb_coord.proofs.cycle.places_in.Goals as goal

pub returns-clause-last : goal.returns-clause-last
returns-clause-last c = search rules fits 100
