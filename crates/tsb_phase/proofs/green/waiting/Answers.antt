use Rattle.std.proofs.Common.{◌≡◌, ℕ, Bool, false, not, ◌&&◌, sym, ◌∙◌, ap, subst}
use Rattle.tsb_objects.specs.tsb_plan.Plan.{is_concurrent}
use Rattle.tsb_objects.specs.tsb_plan.PlanOf.{plan_of}
use Rattle.tsb_objects.specs.tsb_types.Sets.{has}
use Rattle.tsb_phase.proofs.CarLemmas.{waits-told}
use Rattle.tsb_phase.proofs.green.waiting.Goals as goal

pub returns : goal.returns
returns c = λ given told q.
    waits-told (plan_of c.args.plan.now) given c.args.p q (has c.with.result q)
    (λ same. subst (λ (n : ℕ). has c.with.result n ≡ false) (sym same) c.with.ensures.set)
    (λ apart. c.with.ensures.others q apart ∙ c.difference-others.ensures q
    ∙ ap (λ (b : Bool). has c.args.callable q && not b) (c.concurrency.ensures q)
    ∙ ap (λ (set : ℕ → Bool). set q && not (is_concurrent (plan_of c.args.plan.now) c.args.p q)) (sym told))
