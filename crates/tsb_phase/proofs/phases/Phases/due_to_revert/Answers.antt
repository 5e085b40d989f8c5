use Rattle.std.proofs.Common.{ℕ, arith}
use Rattle.tsb_objects.specs.tsb_plan.PlanOf.{plan_of}
use Rattle.tsb_phase.specs.Due.{StaysReverted}
use Rattle.tsb_phase.specs.Layer.{cells_of}
use Rattle.tsb_phase.proofs.DueLemmas.{one-more, reverts-here}
use Rattle.tsb_phase.proofs.phases.Phases.due_to_revert.Goals as goal

pub loop-number-preserved : goal.loop-number-preserved
loop-number-preserved c =
    let from = c.loop-number.invariant.from in
    record {
      from = omega (arith, from);
      told =
          one-more (λ (t p : ℕ). StaysReverted (plan_of c.args.plan.now) (cells_of c.args.self.now) c.args.now t p) c.loop-number.due c.turn-revert.result c.loop-number.number _
          c.min-due.ensures c.loop-number.invariant.told
          (λ t soon. reverts-here (plan_of c.args.plan.now) (cells_of c.args.self.now) c.args.now t c.loop-number.number c.of-p.result c.cell-cell.result c.red_revert-time.result
          c.of-p.ensures c.cell-cell.ensures c.red_revert-time.ensures (λ within after. c.turn-revert.ensures t within after soon));
    }

pub returns : goal.returns
returns c = λ t p soon from within. c.loop-number.invariant.told t p soon from (omega (arith, within))
