use Rattle.std.proofs.Common.{◌≡◌, ◌≢◌, ◌∙◌, ℕ, ◌+◌, ◌-◌, ◌<◌, ◌≤◌, length, Option, None, sym, subst, arith, inl, inr}
use Rattle.std.proofs.lemmas.Bool.Decides.{eqb_tells}
use Rattle.std.proofs.lemmas.List.{get_or-set_same, get_or-set_other, length-set}
use Rattle.tsb_step.specs.declared.waits.Wait.{Wait}
use Rattle.tsb_objects.specs.Checked.{checked_plan}
use Rattle.tsb_controller.specs.Layer.{rows_of}
use Rattle.tsb_controller.specs.StatusPromises.{TellsWaitIn}
use Rattle.tsb_controller.proofs.controller.Controller.waits.Goals as goal

pub loop-k-preserved : goal.loop-k-preserved
loop-k-preserved c =
    let k : ℕ = c.loop-k.k in
    let below : k < 16 = c.loop-k-test.true in
    let full : length c.loop-k.waits ≡ 16 = c.loop-k.invariant.full in
    let Told : ℕ → Option Wait → Type 0 = TellsWaitIn c.args.waiting c.args.found.now c.args.clock (checked_plan c.args.plan.now) (rows_of c.args.self.now) in
    record {
      to = omega (arith, below);
      full = length-set c.loop-k.waits k c.wait_in.result ∙ full;
      told = λ p from to.
          elim (eqb_tells p (k + 1)) [
            | inl last ↦
                let here : p - 1 ≡ k = omega (arith, last.1) in
                rw (here, last.1) (subst (λ o. Told (k + 1) o) (sym (get_or-set_same c.loop-k.waits k c.wait_in.result None (omega (arith, below, full))))
                (subst (λ n. Told n c.wait_in.result) c.of-p.ensures c.wait_in.ensures))
            | inr other ↦
                let apart : p - 1 ≢ k = λ e. other.1 (omega (arith, e, from)) in
                subst (λ o. Told p o) (sym (get_or-set_other c.loop-k.waits k (p - 1) c.wait_in.result None apart)) (c.loop-k.invariant.told p from (omega (arith, to, other.1)))
          ];
    }

pub returns : goal.returns
returns c p from to =
    let over : 16 ≤ c.loop-k.k = c.loop-k-test.false in
    c.loop-k.invariant.told p from (omega (arith, over, to))
