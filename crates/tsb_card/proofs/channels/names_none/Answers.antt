use Rattle.std.proofs.Common.{arith, sym}
use Rattle.tsb_plan.specs.PlanOf.{plan_of}
use Rattle.tsb_types.proofs.RunLemmas.{all-run_from, not_all-run_from}
use Rattle.tsb_card.specs.Pairs.{is_unnamed, names_none}
use Rattle.tsb_card.proofs.channels.names_none.Goals as goal

pub returns-then-not-is_unnamed : goal.returns-then-not-is_unnamed
unfolding names_none
returns-then-not-is_unnamed c = sym (not_all-run_from (is_unnamed (plan_of c.args.plan.now)) 1 16 c.loop-channel.channel c.loop-channel.auto.channel (omega arith) (sym c.if-not-is_unnamed.ensures))

pub returns : goal.returns
unfolding names_none
returns c = sym (all-run_from (is_unnamed (plan_of c.args.plan.now)) 1 16 (λ k from below. c.loop-channel.invariant k from (omega arith)))
