use Rattle.std.proofs.Common.{◌∙◌}
use Rattle.tsb_objects.specs.tsb_types.Lists.{run_from}
use Rattle.tsb_objects.specs.tsb_types.Sets.{has}
use Rattle.tsb_objects.specs.tsb_plan.Parts.{is_modifier}
use Rattle.tsb_objects.specs.tsb_plan.PlanOf.{plan_of}
use Rattle.tsb_objects.proofs.tsb_types.FirstLemmas.{first-same}
use Rattle.tsb_overlap.proofs.arrow.turn_of.Goals as goal

pub returns : goal.returns
unfolding plan_of
returns c =
    c.first.ensures.found
    ∙ first-same (has c.modifier_phases.result) (is_modifier (plan_of c.args.plan.now) c.args.o) (run_from 1 16) c.modifier_phases.ensures
