use Rattle.tsb_laws.proofs.schedules.FollowLemmas.{no-schedule}
use Rattle.tsb_laws.proofs.schedules.nothing_follows_without_a_schedule.Goals as goal

pub returns : goal.returns
returns c = no-schedule
