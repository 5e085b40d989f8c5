use Rattle.std.proofs.Common.{ℕ, ◌&&◌, Bool, ◌∙◌}
use Rattle.tsb_objects.specs.Checked.{checked_plan}
use Rattle.tsb_plan.specs.Parts.{pedestrian_call_phase}
use Rattle.tsb_plan.specs.Plan.{Plan}
use Rattle.tsb_plan.specs.PlanOf.{plan_of}
use Rattle.tsb_types.specs.Lists.{is}
use Rattle.tsb_types.specs.Sets.{has_number}
use Rattle.tsb_objects.proofs.PassLemmas.{pass-same}
use Rattle.tsb_objects.proofs.UnionLemmas.{other-way}
use Rattle.tsb_objects.proofs.checked.Checked.walks_called_by.Goals as goal

pub returns : goal.returns
unfolding checked_plan plan_of
returns c = λ p from within.
    let plan : Plan = plan_of c.args.self.now.plan in
    let on : ℕ → Bool = has_number c.args.detectors in
    c.of.ensures (λ d q. is q (pedestrian_call_phase plan d)) c.args.self.now.unions_are.walks_called p from within
    ∙ pass-same (λ d. on d && is p (pedestrian_call_phase plan d)) (λ d. is p (pedestrian_call_phase plan d) && on d) 1 16 (λ d first below.
    other-way (on d) (is p (pedestrian_call_phase plan d)))
