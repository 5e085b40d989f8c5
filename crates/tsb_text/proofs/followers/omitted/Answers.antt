use Rattle.std.proofs.Common.{◌∙◌, ap, arith, sym}
use Rattle.tsb_bench.specs.Held.{state_of}
use Rattle.tsb_objects.specs.tsb_plan.Plan.{Plan}
use Rattle.tsb_objects.specs.tsb_plan.Schedule.{omitted_by}
use Rattle.tsb_text.proofs.FollowLemmas.{omits-other, omits-same}
use Rattle.tsb_text.proofs.followers.omitted.Goals as goal

pub returns-then-list-from : goal.returns-then-list-from
returns-then-list-from c =
    rw (← c.in_ok-action.ensures.value)
    (sym (omits-same (state_of c.args.bench.now).plan c.in_ok-action.action c.omitted_by-list.result c.list.result (state_of c.args.bench.now).omitted
    (c.omitted_by-list.ensures ∙ ap (λ (plan : Plan). omitted_by plan c.in_ok-action.action) c.plan.ensures) (omega (arith, c.list.type_inv))
    (λ o. c.list.ensures o ∙ c.omitted_arrows.ensures o) (c.if-list-from.true ∙ c.from.ensures)))

pub returns : goal.returns
returns c =
    rw (← c.in_ok-action.ensures.value)
    (sym (omits-other (state_of c.args.bench.now).plan c.in_ok-action.action c.omitted_by-list.result c.list.result (state_of c.args.bench.now).omitted
    (c.omitted_by-list.ensures ∙ ap (λ (plan : Plan). omitted_by plan c.in_ok-action.action) c.plan.ensures) (omega (arith, c.list.type_inv))
    (λ o. c.list.ensures o ∙ c.omitted_arrows.ensures o) (λ e. c.if-list-from.false (e ∙ sym c.from.ensures))))
