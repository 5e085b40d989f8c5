use Rattle.std.proofs.Common.{Option, subst}
use Rattle.tsb_objects.specs.Checked.{checked_plan}
use Rattle.tsb_step.specs.tsb_types.declared.phase_set.PhaseSet.{PhaseSet}
use Rattle.tsb_controller.specs.Found.{IsGivenUpFor}
use Rattle.tsb_controller.specs.Layer.{rows_of}
use Rattle.tsb_controller.proofs.controller.Controller.give_up.Goals as goal

pub returns-clause-given : goal.returns-clause-given
returns-clause-given c =
    subst (λ (o : Option PhaseSet). IsGivenUpFor o (checked_plan c.args.plan.now) (rows_of c.args.self.now) (rows_of c.give_up_for.new.self))
    c.chosen_anew.ensures c.give_up_for.ensures.given
