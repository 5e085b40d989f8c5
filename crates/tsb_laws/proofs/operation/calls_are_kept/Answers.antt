use Rattle.tsb_step.proofs.GoodLemmas.{good_run}
use Rattle.tsb_step.specs.Runs.{replay}
use Rattle.tsb_laws.proofs.operation.calls.KeptCallLemmas.{remembers, vehicles_stand, pedestrians_stand}
use Rattle.tsb_laws.proofs.operation.calls_are_kept.Goals as goal

pub returns-clause-remembered : goal.returns-clause-remembered
returns-clause-remembered c plan is ok taken = remembers (replay plan is) (good_run plan is ok taken)

pub returns-clause-vehicles : goal.returns-clause-vehicles
returns-clause-vehicles c = vehicles_stand

pub returns-clause-pedestrians : goal.returns-clause-pedestrians
returns-clause-pedestrians c = pedestrians_stand
