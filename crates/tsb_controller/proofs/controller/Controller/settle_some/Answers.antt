use Rattle.std.proofs.Common.{Bool, refl, subst}
use Rattle.tsb_controller.specs.Found.{AreSeen}
use Rattle.tsb_controller.specs.Layer.{rows_of}
use Rattle.tsb_controller.proofs.controller.Controller.settle_some.Goals as goal

pub returns-clause-following : goal.returns-clause-following
returns-clause-following c = record {
  seen = c.surroundings-seen.result;
  seen_are = subst (λ (b : Bool). AreSeen c.args.sensed.now.intervals.green b (rows_of c.args.self.now).phases (rows_of c.args.self.now).rings c.surroundings-seen.result)
      c.is_some-is_preempted.ensures c.surroundings-seen.ensures;
  state = c.settle.ensures.state;
  omitted = c.settle.ensures.omitted;
  rest = refl;
}
