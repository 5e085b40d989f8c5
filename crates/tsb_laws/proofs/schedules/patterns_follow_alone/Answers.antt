use Rattle.tsb_laws.proofs.schedules.FollowLemmas.{patterns-alone}
use Rattle.tsb_laws.proofs.schedules.patterns_follow_alone.Goals as goal

pub returns : goal.returns
returns c = patterns-alone
