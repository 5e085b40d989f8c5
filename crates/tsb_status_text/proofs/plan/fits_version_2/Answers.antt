use Rattle.std.proofs.Common.{◌≡◌, ◌==◌, ◌||◌, ◌∙◌, inl, inr, arith, sym}
use Rattle.std.proofs.lemmas.Bool.{cases_lt}
use Rattle.tsb_objects.proofs.tsb_types.RunLemmas.{all-run_from, not_all-run_from}
use Rattle.tsb_plan.specs.Objects.{indices}
use Rattle.tsb_plan.specs.PlanOf.{plan_of}
use Rattle.tsb_status_text.specs.PlanLine.{fits_version_2, is_of_version_2}
use Rattle.tsb_status_text.proofs.plan.fits_version_2.Goals as goal

pub loop-index-preserved : goal.loop-index-preserved
loop-index-preserved c = λ k from below. elim (cases_lt k c.loop-index.index) [
  | inl earlier ↦ c.loop-index.invariant k from earlier
  | inr last ↦
      let same : k ≡ c.loop-index.index = omega (arith, last, below) in
      rw same (sym c.is_told.ensures ∙ c.if-not-is_told.false)
]

pub returns-then-not-is_told : goal.returns-then-not-is_told
unfolding fits_version_2
returns-then-not-is_told c =
    let value = (plan_of c.args.plan.now).value c.args.object in
    sym (not_all-run_from (λ i. value i == 0 || is_of_version_2 (plan_of c.args.plan.now) c.args.object i) 1 (indices c.args.object) c.loop-index.index (omega arith)
    (omega (arith, c.loop-index-test.true, c.indices-index-end.ensures)) (sym c.is_told.ensures ∙ c.if-not-is_told.true))

pub returns : goal.returns
unfolding fits_version_2
returns c =
    let value = (plan_of c.args.plan.now).value c.args.object in
    sym (all-run_from (λ i. value i == 0 || is_of_version_2 (plan_of c.args.plan.now) c.args.object i) 1 (indices c.args.object)
    (λ k from below. c.loop-index.invariant k from (omega (arith, below, c.loop-index-test.false, c.indices-index-end.ensures))))
