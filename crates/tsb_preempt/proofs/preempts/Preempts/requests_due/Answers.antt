use Rattle.std.proofs.Common.{ℕ, ◌<◌, sym, subst, arith, inl, inr}
use Rattle.std.proofs.lemmas.Bool.{cases_eq}
use Rattle.tsb_objects.specs.tsb_plan.PlanOf.{plan_of}
use Rattle.tsb_preempt.specs.Layer.{cells_of}
use Rattle.tsb_preempt.specs.Due.{IsWaiting}
use Rattle.tsb_preempt.proofs.preempts.Preempts.requests_due.Goals as goal

pub loop-n-preserved : goal.loop-n-preserved
loop-n-preserved c = record {
  from = omega arith;
  waits = λ now t begun before k from below.
      let n : ℕ = c.loop-n.n in
      let early : t < c.loop-n.due = omega (arith, before) in
      let soon : t < c.request_due.result = omega (arith, before) in
      elim (cases_eq k n) [
        | inl same ↦
            subst (λ (m : ℕ). IsWaiting now t (plan_of c.args.plan.now) (cells_of c.args.self.now) c.args.inputs c.args.spent c.args.was.now m) (sym same)
            (c.request_due.ensures now t (begun n (omega arith) (omega arith)) soon)
        | inr other ↦ c.loop-n.invariant.waits now t begun early k from (omega (arith, below, other))
      ];
}

pub returns : goal.returns
returns c = λ now t begun before n from to. c.loop-n.invariant.waits now t begun before n from (omega (arith, to))
