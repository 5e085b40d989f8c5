use Rattle.std.proofs.Common.{◌≡◌, ◌==◌, false, arith, sym}
use Rattle.std.proofs.lemmas.Bool.{eq-eqb, ne_eqb}
use Rattle.tsb_objects.proofs.tsb_types.RunLemmas.{all-run_from, not_all-run_from}
use Rattle.tsb_plan.specs.Objects.{indices}
use Rattle.tsb_plan.specs.PlanOf.{plan_of}
use Rattle.tsb_status_text.specs.PlanLine.{is_all_zeros}
use Rattle.tsb_status_text.proofs.plan.is_all_zeros.Goals as goal

pub returns-then-at-ne0 : goal.returns-then-at-ne0
unfolding is_all_zeros
returns-then-at-ne0 c =
    let value = (plan_of c.args.plan.now).value c.args.object in
    let fails : (value c.loop-index.index == 0) ≡ false = ne_eqb (value c.loop-index.index) 0 (λ e. omega (arith, e, c.at.ensures.value, c.if-at-ne0.true)) in
    sym (not_all-run_from (λ i. value i == 0) 1 (indices c.args.object) c.loop-index.index (omega arith) (omega (arith, c.loop-index-test.true, c.indices-index-end.ensures)) fails)

pub returns : goal.returns
unfolding is_all_zeros
returns c =
    let value = (plan_of c.args.plan.now).value c.args.object in
    sym (all-run_from (λ i. value i == 0) 1 (indices c.args.object)
    (λ k from below. eq-eqb (value k) 0 (c.loop-index.invariant k from (omega (arith, below, c.loop-index-test.false, c.indices-index-end.ensures)))))
