use Rattle.std.proofs.Common.{◌≡◌, ℕ, ◌+◌, false, ◌&&◌, slice_index, sym, ◌∙◌, subst, arith, inl, inr}
use Rattle.std.proofs.lemmas.Bool.{cases_eq}
use Rattle.tsb_types.specs.Sets.{has_number}
use Rattle.tsb_objects.specs.tsb_plan.PlanOf.{plan_of}
use Rattle.tsb_preempt.specs.Preempts.{may_begin}
use Rattle.tsb_preempt.specs.Rows.{serving_of, requests_by}
use Rattle.tsb_preempt.specs.Layer.{cells_of}
use Rattle.tsb_preempt.proofs.preempts.Preempts.one_begins.Goals as goal

pub loop-n-preserved : goal.loop-n-preserved
loop-n-preserved c = record {
  from = omega arith;
  none = λ k from below.
      elim (cases_eq k c.loop-n.n) [
        | inl same ↦
            subst (λ (m : ℕ). (has_number c.args.asking m && (may_begin (serving_of c.args.now c.args.was.now) m && requests_by c.args.now (plan_of c.args.plan.now) m (has_number c.args.asking m) false (slice_index (cells_of c.args.self.now) (1 + m)))) ≡ false)
            (sym same) (sym c.begins.ensures ∙ c.if-begins.false)
        | inr other ↦ c.loop-n.invariant.none k from (omega (arith, below, other))
      ];
}

pub returns : goal.returns
returns c = λ none n from to. c.loop-n.invariant.none n from (omega (arith, to))
