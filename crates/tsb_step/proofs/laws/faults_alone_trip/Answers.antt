use Rattle.tsb_step.proofs.TripLemmas as trip
use Rattle.tsb_step.proofs.laws.faults_alone_trip.Goals as goal

pub returns : goal.returns
returns c = trip.faults_alone_trip
