use Rattle.std.proofs.Common.{ℕ, ◌&&◌, Bool, ◌∙◌}
use Rattle.tsb_objects.specs.Checked.{checked_plan}
use Rattle.tsb_plan.specs.Parts.{call_phase}
use Rattle.tsb_plan.specs.Plan.{Plan}
use Rattle.tsb_plan.specs.PlanOf.{plan_of}
use Rattle.tsb_types.specs.Lists.{is}
use Rattle.tsb_types.specs.Sets.{has_detector}
use Rattle.tsb_types.specs.declared.limits.TheConstants.{VEHICLE_DETECTORS}
use Rattle.tsb_objects.proofs.PassLemmas.{pass-same}
use Rattle.tsb_objects.proofs.UnionLemmas.{other-way}
use Rattle.tsb_objects.proofs.checked.Checked.phases_called_by.Goals as goal

pub returns : goal.returns
unfolding checked_plan plan_of
returns c = λ p from within.
    let plan : Plan = plan_of c.args.self.now.plan in
    let on : ℕ → Bool = has_detector c.args.detectors in
    c.of.ensures (λ d q. is q (call_phase plan d)) c.args.self.now.unions_are.called p from within
    ∙ pass-same (λ d. on d && is p (call_phase plan d)) (λ d. is p (call_phase plan d) && on d) 1 VEHICLE_DETECTORS (λ d first below.
    other-way (on d) (is p (call_phase plan d)))
