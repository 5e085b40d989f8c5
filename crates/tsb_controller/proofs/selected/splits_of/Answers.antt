use Rattle.std.proofs.Common.{◌≡◌, ◌≢◌, ◌∙◌, ℕ, ◌+◌, ◌-◌, ◌*◌, ◌<◌, ◌≤◌, length, sym, ap, arith, inl, inr, Option}
use Rattle.std.proofs.lemmas.Bool.Decides.{eqb_tells}
use Rattle.std.proofs.lemmas.List.{get_or-set_same, get_or-set_other, length-set}
use Rattle.tsb_step.specs.tsb_plan.declared.object.Object.TheVariants.{SplitTime}
use Rattle.tsb_step.specs.tsb_plan.Parts.{split_index}
use Rattle.tsb_step.specs.tsb_plan.PlanOf.{plan_of}
use Rattle.tsb_step.specs.Events.{or_zero}
use Rattle.tsb_controller.proofs.selected.splits_of.Goals as goal

pub loop-k-preserved : goal.loop-k-preserved
loop-k-preserved c =
    let k : ℕ = c.loop-k.k in
    let below : k < 16 = c.loop-k-test.true in
    let full : length c.loop-k.splits ≡ 16 = c.loop-k.invariant.full in
    record {
      to = omega (arith, below);
      full = length-set c.loop-k.splits k c.at.result ∙ full;
      told = λ p from to.
          elim (eqb_tells p (k + 1)) [
            | inl last ↦
                let here : p - 1 ≡ k = omega (arith, last.1) in
                rw (here, last.1) (get_or-set_same c.loop-k.splits k c.at.result 0 (omega (arith, below, full)) ∙ c.at.ensures.value ∙ ap (λ (n : ℕ). (plan_of c.args.plan.now).value SplitTime n) (omega arith))
            | inr other ↦
                let apart : p - 1 ≢ k = λ e. other.1 (omega (arith, e, from)) in
                let told : p ≤ k = omega (arith, to, other.1) in
                get_or-set_other c.loop-k.splits k (p - 1) c.at.result 0 apart ∙ c.loop-k.invariant.told p from told
          ];
    }

pub returns-after-loop-k : goal.returns-after-loop-k
unfolding plan_of
returns-after-loop-k c p from to =
    let over : 16 ≤ c.loop-k.k = c.loop-k-test.false in
    let at : 16 * (c.from.result - 1) ≡ 16 * (c.in-Some.table - 1) = ap (λ (n : ℕ). 16 * (n - 1)) (c.from.ensures ∙ c.number.ensures.same) in
    c.loop-k.invariant.told p from (omega (arith, over, to))
    ∙ ap (λ (n : ℕ). (plan_of c.args.plan.now).value SplitTime (n + p)) at
    ∙ ap (λ (o : Option ℕ). or_zero o (λ t. (plan_of c.args.plan.now).value SplitTime (split_index (plan_of c.args.plan.now) t p))) (sym c.in-Some.is)
