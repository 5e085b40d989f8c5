use Rattle.tsb_laws.proofs.heads.TripLemmas.{trip_stays, reset_ends}
use Rattle.tsb_laws.proofs.heads.trips_stay.Goals as goal

pub returns-clause-stays : goal.returns-clause-stays
returns-clause-stays c = trip_stays

pub returns-clause-ends : goal.returns-clause-ends
returns-clause-ends c = reset_ends
