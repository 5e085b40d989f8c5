use Rattle.std.proofs.Common.{subst}
use Rattle.tsb_objects.specs.Checked.{checked_plan}
use Rattle.tsb_calls.specs.declared.observed.Observed.{Observed}
use Rattle.tsb_calls.specs.Layer.{cells_of}
use Rattle.tsb_calls.specs.Promises.{IsSet, TellsCalled}
use Rattle.tsb_controller.specs.Layer.{rows_of}
use Rattle.tsb_controller.proofs.PlacedLemmas.{placed}
use Rattle.tsb_controller.proofs.TickLemmas.{stepped}
use Rattle.tsb_controller.proofs.controller.Controller.tick.Goals as goal

pub returns-clause-state : goal.returns-clause-state
returns-clause-state c =
    stepped c.args.now (checked_plan c.args.plan.now) c.args.row.now (rows_of c.args.self.now) (rows_of c.sense-sensed.new.self) (rows_of c.run_on-held.new.self) (rows_of c.proceed-movement.new.self) (rows_of c.give_up.new.self) (rows_of c.settle.new.self)
    (cells_of c.tick-called.new.self) (cells_of c.settle-2.new.self) c.sense-sensed.result c.tick-called.result c.run_on-held.result c.proceed-movement.result c.decided.result
    c.requires.begun (placed c.args.plan.now) c.requires.by c.sense-sensed.ensures.sensed
    (subst (λ (o : Observed). IsSet o (checked_plan c.args.plan.now) (cells_of c.sense-sensed.new.self.calls) (cells_of c.tick-called.new.self)) c.observed.ensures c.tick-called.ensures.each)
    (subst (λ (o : Observed). TellsCalled o (checked_plan c.args.plan.now) (cells_of c.sense-sensed.new.self.calls) c.tick-called.result) c.observed.ensures c.tick-called.ensures.called)
    c.run_on-held.ensures.run_on c.proceed-movement.ensures.moved c.give_up.ensures.given c.give_up.ensures.rest
    c.settle.ensures.settled c.settle.ensures.rest c.decided.ensures c.settle-2.ensures.each
