use Rattle.tsb_rules.proofs.ConsistentLemmas.{preempt_sound}
use Rattle.tsb_rules.proofs.consistent.preempts_are_sound.Goals as goal

pub returns : goal.returns
returns c = preempt_sound
