use Rattle.std.proofs.Common.{refl, subst}
use Rattle.tsb_objects.specs.Checked.{checked_plan}
use Rattle.tsb_phase.specs.Layer as phases
use Rattle.tsb_ring.specs.declared.conditions.RingConditions.{RingConditions}
use Rattle.tsb_ring.specs.Layer as rings
use Rattle.tsb_ring.specs.Promises.{IsDecided}
use Rattle.tsb_controller.specs.Found.{for_rings}
use Rattle.tsb_controller.proofs.MovesLemmas.{apart, clearing}
use Rattle.tsb_controller.proofs.PlacedLemmas.{placed}
use Rattle.tsb_controller.proofs.controller.Controller.proceed.Goals as goal

pub carry_out-requires-clause-clearing : goal.carry_out-requires-clause-clearing
carry_out-requires-clause-clearing c =
    clearing c.args.now (checked_plan c.args.plan.now) c.conditions-conditions.result (for_rings c.args.sensed.now c.args.called.now c.holding-timing.result)
    (rings.cells_of c.args.self.now.rings) (phases.cells_of c.args.self.now.phases) (phases.cells_of c.tick.new.self) c.tick.result c.args.held c.decide-moves.result
    (placed c.args.plan.now) c.requires.rings_by
    (subst (λ (k : RingConditions). IsDecided (checked_plan c.args.plan.now) k (rings.cells_of c.args.self.now.rings) c.decide-moves.result) c.for_rings.ensures c.decide-moves.ensures)
    c.tick.ensures.each c.tick.ensures.over c.holding-timing.ensures

pub carry_out-requires-clause-apart : goal.carry_out-requires-clause-apart
carry_out-requires-clause-apart c =
    apart (checked_plan c.args.plan.now) c.for_rings.result (rings.cells_of c.args.self.now.rings) c.decide-moves.result c.decide-moves.ensures

pub returns-clause-moved : goal.returns-clause-moved
returns-clause-moved c = record {
  conditions = c.conditions-conditions.result;
  counts = c.vehicles.result.now;
  lent = c.vehicles.ensures.each;
  conditions_are = c.conditions-conditions.ensures;
  timed = phases.cells_of c.tick.new.self;
  ticked = c.tick.ensures.each;
  timing = c.tick.result;
  ready = c.tick.ensures.ready;
  over = c.tick.ensures.over;
  reverted = c.tick.ensures.red_revert_passed;
  gapped = c.tick.ensures.gapped;
  walks = c.tick.ensures.walks;
  held_back = c.holding-timing.ensures;
  decided = subst (λ (k : RingConditions). IsDecided (checked_plan c.args.plan.now) k (rings.cells_of c.args.self.now.rings) c.decide-moves.result)
      c.for_rings.ensures c.decide-moves.ensures;
  ones = c.carry_out.ensures.ones;
  carried = c.carry_out.ensures.each;
  phases_by = c.carry_out.ensures.by;
  acted = c.act.ensures.state;
  rings_by = c.act.ensures.by;
  rest = refl;
}
